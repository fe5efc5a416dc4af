pub mod Phases
pub mod Running
