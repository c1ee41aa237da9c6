pub mod Computed
pub mod Meeting
