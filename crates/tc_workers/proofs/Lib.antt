pub mod Grants
pub mod Follow
pub mod Closed
pub mod Seating
pub mod Driven
pub mod Sharing
pub mod Sends
