pub mod Variables
pub mod Places
pub mod Edits
pub mod Base
pub mod Writes
pub mod Laws
pub mod Standing
