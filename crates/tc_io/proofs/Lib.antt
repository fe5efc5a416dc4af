pub mod Flows
pub mod Inputs
pub mod Openings
pub mod Outputs
