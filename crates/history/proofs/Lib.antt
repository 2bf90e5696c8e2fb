pub mod Lasting
pub mod Standings
pub mod Validity
pub mod Law
pub mod Single
pub mod Steps
pub mod Keeping
