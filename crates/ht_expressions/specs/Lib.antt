pub mod Answer
pub mod Fronts
pub mod Nests
