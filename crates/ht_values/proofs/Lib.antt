mod Digits
mod Divisions
pub mod Folding
mod Numerals
mod OnNumbers
mod Orders
pub mod Positions
mod Powers
mod ReadBack
mod Sames
mod Searches
pub mod Spellings
mod Trims
