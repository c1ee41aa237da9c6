pub mod Writes
pub mod Prepared
