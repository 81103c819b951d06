pub mod RecordLaws
pub mod OrderingLaws
pub mod TurnLaws
pub mod DoneLaws
pub mod ClaimLaws
