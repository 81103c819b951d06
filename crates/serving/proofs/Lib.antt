pub mod CeilingLaws
pub mod KeepingLaws
