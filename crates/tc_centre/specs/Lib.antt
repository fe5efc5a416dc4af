pub mod Centre
pub mod Turns
pub mod Held
pub mod Operations
pub mod Core
pub mod Owners
