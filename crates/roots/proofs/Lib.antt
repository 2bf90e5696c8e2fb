pub mod Extremes
pub mod Roots
pub mod Quotients
