pub mod Shares
pub mod Readings
pub mod Cases
pub mod Exact
