pub mod Words
pub mod Workload
pub mod Counts
pub mod Summaries
