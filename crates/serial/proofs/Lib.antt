pub mod PassedLaws
pub mod PutLaws
pub mod LeftLaws
