pub mod Lengths
pub mod Exact
