pub mod Alone
pub mod Beginnings
pub mod Naming
pub mod Going
pub mod Turned
pub mod Holding
pub mod Growing
pub mod Plugging
pub mod Weighing
pub mod Once
pub mod Preparing
pub mod Replacing
pub mod Trails
pub mod Numbering
mod Ordered
pub mod Marks
pub mod Several
mod Listing
pub mod Keys
pub mod PlaceSets
pub mod Indexing
pub mod Keeping
pub mod ScriptTrees
pub mod Renumbered
pub mod Rooms
