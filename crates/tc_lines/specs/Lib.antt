pub mod Lines
pub mod Requests
pub mod Asked
pub mod Replies
