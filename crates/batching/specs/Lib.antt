pub mod Rows
pub mod Ordering
pub mod TakenTurns
pub mod Batched
pub mod Claims
