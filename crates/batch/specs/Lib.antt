pub mod Turns
pub mod Order
pub mod Batch
pub mod Again
