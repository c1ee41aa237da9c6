pub mod Peeks
pub mod Deeper
pub mod Chain
pub mod Lists
pub mod Ranks
pub mod Leaves
