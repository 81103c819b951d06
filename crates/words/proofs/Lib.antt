pub mod PasteLaws
pub mod BodyLaws
pub mod ReadingLaws
pub mod PutLaws
pub mod SameLaws
pub mod BackLaws
pub mod TidyLaws
