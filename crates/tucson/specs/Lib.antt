pub mod Status
pub mod Commands
pub mod Texts
pub mod Answer
pub mod Ending
pub mod Reading
pub mod Serving
