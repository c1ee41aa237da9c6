pub mod Following
pub mod Heard
pub mod Intake
pub mod Saved
pub mod Saving
pub mod Sessions
pub mod Writing
pub mod Whole
