pub mod Numbers
pub mod Asked
pub mod Loads
pub mod Bolts
pub mod Placing
pub mod Neighbours
pub mod Tables
