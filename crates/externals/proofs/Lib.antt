pub mod Flipping
pub mod ReadTexts
