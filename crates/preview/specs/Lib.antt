pub mod Entries
pub mod Preview
-- What is claimed
pub mod Claims
