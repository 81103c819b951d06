pub mod Contents
pub mod Spans
pub mod Listed
pub mod Rows
pub mod Starts
