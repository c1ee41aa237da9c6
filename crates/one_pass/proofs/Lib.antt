pub mod Called
pub mod Lists
pub mod Meets
pub mod Operators
pub mod Texts
