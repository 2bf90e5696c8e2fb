pub mod WordRuns
pub mod FrontRuns
pub mod TextRuns
pub mod PrintRuns
pub mod RoundTrips
pub mod Lawful
