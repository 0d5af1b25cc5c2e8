pub mod Phrases
pub mod Answers
