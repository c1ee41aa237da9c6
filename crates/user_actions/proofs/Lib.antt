pub mod Telling
pub mod TypedOver
