pub mod Reaching
pub mod Entries
pub mod Prospects
pub mod Ready
