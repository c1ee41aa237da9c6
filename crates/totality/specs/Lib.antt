pub mod Laws
pub mod Tables
