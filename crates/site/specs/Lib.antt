pub mod Ranges
pub mod Sites
