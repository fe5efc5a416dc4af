pub mod Rows
pub mod Desks
pub mod Crowds
pub mod Sweeps
pub mod Chunks
pub mod Sending
pub mod Readable
