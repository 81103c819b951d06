pub mod ReadBack
pub mod CachedLaws
pub mod RecordLaws
