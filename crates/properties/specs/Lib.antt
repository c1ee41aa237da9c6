pub mod Names
pub mod PropertyText
pub mod Setting
