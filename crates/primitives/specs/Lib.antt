pub mod Atoms
pub mod Blocks
pub mod Given
pub mod Listed
pub mod Operands
pub mod Views
