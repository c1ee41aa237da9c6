pub mod Reserved
pub mod Symbols
pub mod Spans
mod Runs
pub mod Longest
pub mod Cutting
pub mod Computed
pub mod Placed
pub mod Turns
