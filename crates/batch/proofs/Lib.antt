pub mod OrderLaws
pub mod AnswerLaws
pub mod BatchLaws
pub mod FrozenLaws
pub mod AgainLaws
