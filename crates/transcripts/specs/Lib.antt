pub mod Laws
pub mod Replies
