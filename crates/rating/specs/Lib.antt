pub mod Modes
pub mod Editions
pub mod Concrete
pub mod Lines
pub mod Meanings
pub mod Strengths
pub mod Numbers
pub mod Sheets
