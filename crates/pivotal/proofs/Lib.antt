pub mod BelowLaws
pub mod FreeLaws
pub mod PivotLaws
pub mod RefusalLaws
pub mod PortLaws
