pub mod LineAnswers
pub mod Each
