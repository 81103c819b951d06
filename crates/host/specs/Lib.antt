pub mod Told
pub mod Runs
pub mod OwnedRuns
