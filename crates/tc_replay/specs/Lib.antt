pub mod Following
pub mod Meeting
pub mod Agendas
pub mod Replays
pub mod Bad
pub mod Acts
pub mod Demands
pub mod Serving
