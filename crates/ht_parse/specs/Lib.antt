pub mod Contexts
pub mod Lists
pub mod Answer
pub mod Blocks
pub mod Stops
pub mod Failures
pub mod OnlyTree
