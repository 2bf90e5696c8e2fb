pub mod Weights
pub mod Effects
