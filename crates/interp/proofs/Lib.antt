pub mod Blocks
pub mod Edits
pub mod Loops
pub mod Nested
pub mod Operands
pub mod Picks
