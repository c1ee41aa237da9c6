pub mod Bases
mod Examples
pub mod Given
pub mod Locals
mod Outcomes
pub mod Rules
