pub mod Texts
pub mod Decimals
pub mod AtFront
pub mod Seen
pub mod Firsts
pub mod Marks
pub mod Codes
