pub mod Cores
pub mod Results
pub mod Clients
pub mod Steps
pub mod Plans
pub mod Runs
