pub mod Operations
pub mod Filling
pub mod Histories
pub mod Growing
pub mod Fitting
pub mod Logs
pub mod Typing
pub mod Sends
