pub mod Votes
pub mod Checks
pub mod Ready
