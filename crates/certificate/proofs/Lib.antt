pub mod Firsts
pub mod Sound
pub mod RuleTables
pub mod EntryLists
pub mod RoundTrip
pub mod Written
