pub mod AuthorLaws
pub mod PreviousLaws
pub mod ViewRules
