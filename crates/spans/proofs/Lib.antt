pub mod RowLaws
pub mod WordLaws
pub mod SpanLaws
pub mod ClaimLaws
pub mod StartLaws
