pub mod Lengths
pub mod Ceilings
pub mod Streams
pub mod Keeping
