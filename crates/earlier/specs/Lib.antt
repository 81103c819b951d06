-- What is claimed of runs of now and of before. The proofs stand in proofs/.

-- Two ways in which engines answer, one of which refuses more
pub mod Refusing
-- The rules before an advance asked for a quorum
pub mod Earlier
