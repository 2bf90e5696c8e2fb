pub mod Frees
pub mod Cuts
pub mod WordRuns
pub mod DigitRuns
pub mod Written
