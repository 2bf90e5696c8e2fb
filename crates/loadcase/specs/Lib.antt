pub mod Opened
pub mod Held
pub mod Reckoned
pub mod Closed
