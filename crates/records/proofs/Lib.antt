pub mod Reading
pub mod Marks
