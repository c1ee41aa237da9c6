pub mod Places
pub mod Codes
pub mod Exchange
