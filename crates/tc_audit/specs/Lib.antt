pub mod Beginnings
pub mod Reached
pub mod Noted
pub mod Followed
