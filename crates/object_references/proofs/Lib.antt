pub mod Examples
pub mod Fitting
pub mod Handed
pub mod Last
