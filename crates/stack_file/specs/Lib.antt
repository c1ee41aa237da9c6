pub mod Pieces
pub mod Owners
pub mod Views
pub mod Lines
pub mod Passing
pub mod Building
