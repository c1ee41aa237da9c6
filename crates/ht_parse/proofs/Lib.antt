pub mod Deeper
pub mod Lists
pub mod Ranks
mod Kept
