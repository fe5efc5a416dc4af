pub mod Ages
pub mod Adding
pub mod Batches
pub mod Costs
pub mod Ends
pub mod Reached
