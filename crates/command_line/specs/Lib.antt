pub mod Kit
pub mod Verdicts
pub mod Words
pub mod Plays
