pub mod Equal
pub mod Passing
pub mod Walking
pub mod Arguments
pub mod Bound
pub mod ByFirst
pub mod Looks
