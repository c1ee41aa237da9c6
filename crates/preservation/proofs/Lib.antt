pub mod Ends
mod Kept
pub mod Bases
pub mod Trails
mod Risen
pub mod Rises
pub mod Prefixes
pub mod Going
pub mod Runs
pub mod Commands
pub mod Logs
pub mod CallBacks
pub mod Placed
pub mod StaysWhole
pub mod Wholes
