-- The premises can be met under the margins 4 and 5
pub mod Margins
-- With draws, batches and guests' requests, and over words
pub mod Queued
pub mod Counted
pub mod Mixed
