pub mod Powers
pub mod Roots
pub mod Orders
pub mod Totals
