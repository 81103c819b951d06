-- Claims about guests' queues. The proofs stand in proofs/.

-- What every call leaves in the queues
pub mod Kept
-- Between two transactions drawn from one guest every other guest that waits all that time has one drawn
pub mod Fairness
-- The same with batches among the calls
pub mod Batches
-- The same with guests' requests, and that a guest adds to no other queue
pub mod Guests
