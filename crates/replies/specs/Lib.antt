pub mod Answers
pub mod Asked
pub mod Records
