pub mod FileDesks
pub mod FileStates
