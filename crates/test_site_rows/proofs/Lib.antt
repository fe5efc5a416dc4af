pub mod Seated
pub mod Driven
