pub mod KeptLaws
pub mod GoingRound
pub mod Timelines
pub mod CallMoments
pub mod FairLaws
pub mod BatchLaws
pub mod GuestLaws
