pub mod Accepted
pub mod Sittings
pub mod Desks
pub mod Doors
pub mod Outcomes
