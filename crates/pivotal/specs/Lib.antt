pub mod Pivotal
