pub mod Below
pub mod Places
pub mod Shares
pub mod Judging
mod Told
mod Listed
mod Ceilings
pub mod Governed
pub mod SameLines
pub mod Answered
pub mod Readings
