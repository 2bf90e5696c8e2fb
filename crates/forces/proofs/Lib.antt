pub mod Spreads
pub mod Accuracy
pub mod Sums
pub mod Whole
pub mod Exactness
pub mod Weighted
