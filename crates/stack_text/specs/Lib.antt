pub mod Faults
pub mod Words
pub mod Document
pub mod Spelling
pub mod Listing
pub mod Reading
pub mod Laws
