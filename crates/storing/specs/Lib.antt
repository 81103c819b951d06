pub mod Bytes
pub mod Refusals
pub mod Stored
pub mod Storing
pub mod Loading
pub mod Round
pub mod Signed
