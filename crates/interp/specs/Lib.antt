pub mod Edits
pub mod Forms
pub mod Heads
pub mod Joining
pub mod Keeps
pub mod Operands
pub mod Picks
pub mod Views
