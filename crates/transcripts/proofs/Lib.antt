pub mod Cursors
pub mod Exists
pub mod Grown
pub mod Kept
pub mod Logs
pub mod Once
pub mod One
pub mod OneDesk
pub mod OneReply
pub mod Said
pub mod SomeReply
pub mod Told
mod KitTable
mod Tables
mod Ways
mod Whole
