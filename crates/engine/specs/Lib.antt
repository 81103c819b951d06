-- What a call is, the number that refuses it, what it leaves and the value it gives
pub mod Calls
pub mod Engine
pub mod Values
-- What is claimed of every call
pub mod Steps
-- Sequences of calls on one engine
pub mod Sequences
pub mod Reached
pub mod Guests
