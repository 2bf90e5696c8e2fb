pub mod Extremes
pub mod Roots
pub mod Division
pub mod Rises
