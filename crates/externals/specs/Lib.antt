pub mod Cells
pub mod Turns
pub mod Log
pub mod Patches
