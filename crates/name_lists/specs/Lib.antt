pub mod Places
pub mod Parameters
pub mod Order
