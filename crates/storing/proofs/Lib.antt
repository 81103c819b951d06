pub mod ByteLaws
pub mod StoredLaws
pub mod ReadLaws
pub mod RoundLaws
pub mod LongerLaws
pub mod SignedLaws
pub mod OnceLaws
