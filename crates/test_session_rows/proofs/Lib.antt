pub mod Closing
pub mod Moves
pub mod Seated
