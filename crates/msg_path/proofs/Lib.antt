pub mod One
pub mod Rules
