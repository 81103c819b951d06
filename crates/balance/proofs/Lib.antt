pub mod LedgerLaws
pub mod TotalLaws
pub mod JournalLaws
pub mod ListedLaws
pub mod BalanceLaws
