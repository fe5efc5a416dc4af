pub mod Answers
pub mod Sessions
pub mod SoFar
pub mod Answering
pub mod Underway
pub mod Staying
