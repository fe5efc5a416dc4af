pub mod Found
pub mod Bindings
