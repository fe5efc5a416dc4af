pub mod Asking
pub mod AskedLines
pub mod Cuts
pub mod Filling
pub mod Unique
