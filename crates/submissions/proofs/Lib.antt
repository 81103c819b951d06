pub mod SubmissionLaws
pub mod RequestLaws
