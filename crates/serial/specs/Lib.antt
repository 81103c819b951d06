pub mod Calls
pub mod Serial
