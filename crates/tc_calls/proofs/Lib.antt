pub mod CallLists
pub mod AgentPlaces
pub mod Indexed
pub mod Noting
pub mod Numbered
