pub mod NumberRuns
pub mod Meant
