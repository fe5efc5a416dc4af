pub mod Sums
pub mod Lists
pub mod Frames
pub mod TurnSteps
pub mod SeatSteps
pub mod PassLists
pub mod PassSeats
