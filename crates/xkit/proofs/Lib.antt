pub mod Planning
pub mod Relays
