pub mod Sessions
pub mod Visits
pub mod Serving
pub mod Seats
pub mod Rooms
pub mod Service
