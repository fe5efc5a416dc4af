pub mod Moments
pub mod TupleFree
