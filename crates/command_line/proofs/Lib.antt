pub mod Kits
pub mod Playing
