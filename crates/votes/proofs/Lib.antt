pub mod AnchorLaws
pub mod CheckLaws
pub mod AbsenceLaws
