pub mod Deletion
pub mod References
pub mod Settings
