pub mod Operands
pub mod Bindings
pub mod Places
pub mod Progress
pub mod Nexts
