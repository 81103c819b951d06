-- The argument: the chains of correct members never fork
pub mod PrefixLaws
pub mod WeightLaws
pub mod QuorumIntersection
pub mod KnownCommittees
pub mod DagLaws
pub mod NonEquivocation
pub mod AnchorPaths
pub mod NonForking
pub mod PlaceLaws
pub mod Growth
pub mod Signatures
pub mod Preservation
pub mod Agreement
-- Machines that do what the rules say
pub mod EntryLaws
pub mod MachineAgreement
-- What an engine computes is what the theory asks
pub mod HistoryLaws
pub mod BlockLaws
pub mod CommitLaws
pub mod MarkLaws
pub mod ListingLaws
