pub mod Plain
pub mod Values
pub mod Steps
pub mod Leading
