pub mod Critical
pub mod Answers
