pub mod Ready
pub mod Steps
pub mod Growth
pub mod States
pub mod First
pub mod Moves
pub mod Flips
pub mod Commits
pub mod Plugs
pub mod Journal
pub mod Making
pub mod Globals
pub mod Short
mod Objects
pub mod Renumbered
pub mod Rooms
