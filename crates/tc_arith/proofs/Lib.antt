pub mod Arities
pub mod ByName
pub mod Ranges
pub mod Remainders
