pub mod Kept
pub mod Leads
pub mod Pending
pub mod Coming
pub mod SoFar
pub mod Over
pub mod Staying
pub mod Underway
