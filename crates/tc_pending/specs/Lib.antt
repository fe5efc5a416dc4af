pub mod Waiting
pub mod Answers
pub mod Costs
pub mod Codes
pub mod Rising
pub mod Filed
pub mod Changes
