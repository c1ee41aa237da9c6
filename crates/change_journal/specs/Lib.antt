pub mod Marks
pub mod History
pub mod Batches
pub mod Rising
pub mod Logs
