pub mod TreeTexts
pub mod ValueTexts
pub mod StateTexts
pub mod Leaves
pub mod Sound
