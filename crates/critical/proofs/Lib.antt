pub mod LackLaws
pub mod PlaceLaws
pub mod AnswerLaws
