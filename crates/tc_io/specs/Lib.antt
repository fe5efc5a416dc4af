pub mod Faults
pub mod Sources
pub mod Sinks
pub mod Flow
pub mod Links
pub mod Memory
pub mod Doors
