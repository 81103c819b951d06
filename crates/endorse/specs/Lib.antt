pub mod Endorse
