pub mod Plans
pub mod Steps
pub mod Table
pub mod Members
