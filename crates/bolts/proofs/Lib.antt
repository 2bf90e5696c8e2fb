pub mod Filters
pub mod Rows
pub mod Placed
pub mod Lifted
pub mod Gaps
pub mod Bounds
pub mod Rising
