pub mod Resting
pub mod Answering
pub mod Telling
pub mod Marking
pub mod Following
