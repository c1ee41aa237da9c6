pub mod AllBytes
pub mod Desks
pub mod Shelves
pub mod Waiting
pub mod Watching
