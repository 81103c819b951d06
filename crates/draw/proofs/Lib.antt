pub mod PassedLaws
pub mod ClaimLaws
