pub mod Blocks
pub mod Forms
pub mod Kept
pub mod Lists
pub mod Names
pub mod Stored
pub mod Turns
