-- Runs that meet the premises. The proofs stand in proofs/.

-- Under the margins 4 and 5
pub mod Margins
-- With draws, batches and guests' requests, and over words
pub mod Lines
pub mod Mixed
