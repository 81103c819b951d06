pub mod PassedLaws
pub mod Copies
pub mod AdmissionRules
