pub mod HistoryLaws
pub mod AnchorLaws
pub mod TakenLaws
pub mod BlockLaws
pub mod MarkLaws
pub mod SeenLaws
pub mod CommitLaws
pub mod FirstRow
