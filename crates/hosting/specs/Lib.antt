pub mod Calls
pub mod Answers
pub mod Handed
pub mod Held
pub mod Bounds
pub mod Guested
pub mod HostCalls
pub mod GuestForms
