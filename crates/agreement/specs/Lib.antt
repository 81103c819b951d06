-- Agreement: over abstract rules, the chains of correct members never fork, whoever knows a round knows the same committee, and a chain only grows.
--
-- Definitions stand here, the argument in proofs/, its files in their order. What the rules compute is data (Rules), and only theorems take laws (Laws), so that every definition
-- that a contract cites means something in any state, also in one that no run reaches.
--
-- Parameters, and the later changes that each of them covers, so that nothing here is proved again:
--   `order` of Listing             the order inside a block. It may be any function of the block and the chain below, which tells the leader of the block's round
--   `known`, `committee` of Rules  what transactions do and in which order they apply, lookback. Asked is only that a block which stands two or more
--                                  rounds above the last one leaves what the chain told already
--   `bound` of Rules               the fault bound, and with it quorums and votes (a margin). Asked is only 0 < total → 3 * bound < total
--   `leader` of Rules              how a leader is chosen or looked up. Asked is only that rounds with a leader are two apart, from 2 on
--   `P` of Rules                   what a proposal holds; transactions are not looked at
--   `State`, `view` of Machines    storage: how a member keeps its view, and what else it keeps (endorsers, queues, rights, ports)
--   `other_call` of Moves          calls that leave the view: reads, previews, lists, and every refused call, so also calls that refuse more than before
--   the list of Entries            a call that counts as several (a batch of certificates) is as many entries
-- Shares, and the register of weights, are no part of the theory.

-- What the theory speaks of
pub mod Weights
pub mod Rules
pub mod Laws
pub mod View
pub mod Dag
pub mod Places
pub mod Quorum
pub mod Anchors
pub mod Links
pub mod Prefixes
pub mod Invariants
pub mod Moves
pub mod Runs
-- Machines: members that keep their view in any form, and lists of their calls
pub mod Entries
pub mod Machines
-- What an engine computes
pub mod Histories
pub mod Commits
pub mod Marks
pub mod Listing
