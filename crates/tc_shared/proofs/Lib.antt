pub mod Adding
pub mod Turns
pub mod Waiting
pub mod Fresh
pub mod Kept
pub mod Sends
