pub mod Settings
pub mod Exchanging
pub mod Places
pub mod Wider
