pub mod FirstPlaces
pub mod Indexes
pub mod Numbers
