pub mod Steps
pub mod Leading
pub mod Outcomes
pub mod Costs
