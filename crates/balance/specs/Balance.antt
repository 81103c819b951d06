-- Weights add up, over every sequence of calls from opening (docs/RULES.md, "Weights that add up").
use Rattle.std.specs.Prelude.{◌≡◌, List, [], ℕ, ◌+◌, ◌<◌, ◌≤◌}
use Rattle.agreement.specs.Weights.{total}
use Rattle.agreement.specs.Rules.{Chain, last}
use Rattle.terms.specs.declared.Transaction.{Transaction}
use Rattle.terms.specs.Proposals.{Content}
use Rattle.terms.specs.Ranges.{weight_in}
use Rattle.committee.specs.Chain.{chain_of}
use Rattle.engine.specs.Engine.{Engine}
use Rattle.nonforking.specs.Statement.{listed, Knows, weights}
use Rattle.balance.specs.Ledger.{entered, journal, listed_transactions, bonded_to, released_from, bonded_all, released_all}

-- the starting weights
abbrev pub start : Engine → ℕ → ℕ
start e = weight_in e.state.settings.weights

-- the first k blocks of an engine's chain, and the whole chain where k is the number of its blocks
abbrev pub chain_to : Engine → ℕ → Chain Content
chain_to e k = chain_of e.state.settings.ceiling e.table k

-- their transactions, newest first
abbrev pub transactions_to : Engine → ℕ → List Transaction
transactions_to e k = journal e.state.settings (chain_to e k)

-- the first round whose committee they all change; the first above the lookback where there are none
abbrev pub round_after : Engine → ℕ → ℕ
round_after e k = e.state.settings.lookback + (last (chain_to e k) + 1)

-- after the first k blocks: what there is and what was released is what there was and what was bonded; so no more is released than that, and "less" is exact
pub record AddsUpTo (e : Engine) (k : ℕ) : Type 0 where
  -- that round is known
  pub known : Knows e (round_after e k)
  -- each member alone
  pub each : (m : ℕ) → m < 16
      → weights e (round_after e k) m + released_from (start e) m (transactions_to e k)
      ≡ start e m + bonded_to m (transactions_to e k)
  -- all together
  pub whole : total 16 (weights e (round_after e k)) + released_all (start e) (transactions_to e k)
      ≡ total 16 (start e) + bonded_all (transactions_to e k)

pub record AddsUp (e : Engine) : Type 0 where
  pub after_all : AddsUpTo e e.state.blocks
  -- and after each block before
  pub after_each : (k : ℕ) → k ≤ e.state.blocks → AddsUpTo e k
  -- in the committee of every round
  pub bounded : (r : ℕ) → total 16 (weights e r) ≤ 81536000
  -- the transactions are those that the chain's listing shows
  pub shown : transactions_to e e.state.blocks ≡ entered (listed_transactions (listed e)) []
