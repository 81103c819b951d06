pub mod RefusingLaws
pub mod EarlierLaws
pub mod Thin
