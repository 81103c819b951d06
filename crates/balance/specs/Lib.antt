pub mod Ledger
pub mod Balance
