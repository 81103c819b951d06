-- Chains never fork
pub mod Implemented
pub mod StartLaws
pub mod RunLaws
pub mod Theorem
pub mod Lasting
pub mod AnchorStarts
-- What a held certificate keeps
pub mod StoredLaws
pub mod ShownLaws
-- The premises can be met
pub mod Converses
pub mod PlainTests
pub mod Answers
pub mod Witness
