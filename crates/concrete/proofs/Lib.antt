pub mod Cone
pub mod Edge
