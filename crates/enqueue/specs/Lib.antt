pub mod Enqueue
