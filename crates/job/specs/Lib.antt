pub mod Refusals
pub mod Scripts
pub mod Telling
pub mod Printed
pub mod Jobs
