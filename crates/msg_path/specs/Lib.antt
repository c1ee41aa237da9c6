pub mod Path
pub mod Handlers
pub mod BuiltIns
pub mod Meets
pub mod Laws
pub mod Trees
pub mod Codes
