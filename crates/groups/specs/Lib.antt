pub mod Weights
pub mod Groups
