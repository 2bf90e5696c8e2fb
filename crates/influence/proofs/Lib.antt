pub mod Rounding
pub mod Sizes
pub mod Enclosed
pub mod Lengths
pub mod Figure
