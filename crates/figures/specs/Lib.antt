pub mod Worked
pub mod Sheets
