pub mod ReadLaws
pub mod BoundLaws
pub mod BlockLaws
pub mod CertificateReadLaws
