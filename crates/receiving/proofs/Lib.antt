pub mod GrownListings
pub mod ByteLaws
pub mod ReceivedLaws
pub mod OtherPorts
pub mod ResetLaws
