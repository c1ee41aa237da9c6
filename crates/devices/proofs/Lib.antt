pub mod Hearing
pub mod Known
