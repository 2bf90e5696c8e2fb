pub mod Names
pub mod Fields
pub mod Lines
pub mod Fronts
pub mod Content
pub mod Parsed
pub mod Printed
pub mod Faults
