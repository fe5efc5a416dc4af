pub mod Triggering
pub mod Waves
pub mod Passing
pub mod Keeping
pub mod Endings
pub mod Counting
