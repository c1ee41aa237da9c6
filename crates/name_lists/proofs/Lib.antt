pub mod Bindings
pub mod Indexed
mod Right
mod Found
mod Ordered
mod Kept
