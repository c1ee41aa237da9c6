pub mod Lookup
pub mod Replacing
pub mod Tools
