pub mod Adding
pub mod Built
pub mod Found
pub mod Passing
pub mod PieceTexts
pub mod Pieced
pub mod Places
pub mod Times
