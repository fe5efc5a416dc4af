pub mod Faults
pub mod Steps
pub mod Told
pub mod Values
pub mod Known
pub mod Replaced
pub mod Taken
