pub mod AtPlaces
pub mod Quotients
