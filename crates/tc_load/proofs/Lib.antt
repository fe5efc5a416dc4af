pub mod Steps
pub mod Draws
