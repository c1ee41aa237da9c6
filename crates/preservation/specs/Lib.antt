pub mod Rising
pub mod Changes
pub mod Replaced
pub mod Whole
pub mod Kinds
pub mod Laws
