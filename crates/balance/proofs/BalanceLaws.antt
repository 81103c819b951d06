-- Weights add up: the committee after all blocks is the starting one changed by the journal.
use Rattle.std.proofs.Common.{◌≡◌, ◌∙◌, List, ℕ, ◌+◌, ◌-◌, ◌<◌, ◌≤◌, arith, length, le-leb}
use Rattle.base.proofs.FoldLaws.{length-tab}
use Rattle.agreement.specs.Rules.{last}
use Rattle.store.specs.Table.{block_round}
use Rattle.terms.specs.declared.sheet.Settings.{Settings}
use Rattle.terms.specs.Ranges.{weight}
use Rattle.terms.specs.Sheets.{weight_at}
use Rattle.terms.proofs.SheetLaws.{filled-weights}
use Rattle.committee.specs.Committees.{committee_of, known_by}
use Rattle.committee.proofs.CommitteeLaws.{committee-bonded}
use Rattle.chain_committees.proofs.ChainLaws.{last-chain, fits-at, last_up, bonded-below}
use Rattle.chain_committees.proofs.TotalBound.{committee-total}
use Rattle.state.specs.Formed.{Formed}
use Rattle.state.proofs.FormedLaws.{formed}
use Rattle.engine.specs.Engine.{Engine}
use Rattle.engine.specs.Reached.{Intact, Reached}
use Rattle.engine.proofs.ReachedLaws.{intact}
use Rattle.nonforking.specs.Statement.{Knows}
use Rattle.balance.proofs.LedgerLaws.{weights_after, bonded-journal, member_adds}
use Rattle.balance.proofs.TotalLaws.{total_adds}
use Rattle.balance.proofs.JournalLaws.{all-below, journal-fit}
use Rattle.balance.proofs.ListedLaws.{journal_listed}
use Rattle.balance.specs.Balance.{chain_to, transactions_to, round_after, AddsUpTo, AddsUp}

module _ (e : Engine) (r : Intact e) where
  abbrev S : Settings
  S = e.state.settings

  abbrev n : ℕ
  n = S.ceiling

  abbrev t : List ℕ
  t = e.table

  abbrev blocks : ℕ
  blocks = e.state.blocks

  whole-state : Formed e.state t
  whole-state = formed e.state t r.good.formed

  -- a later block is of a later round
  next-above : (k : ℕ) → k < blocks → last (chain_to e k) + 1 ≤ block_round t (k + 1)
  next-above k h = let f = (fits-at n t blocks whole-state.rounds k h).rises in rw (last-chain n t k) (omega arith)

  -- the committee after the first k blocks
  committee-after : (k : ℕ) → k ≤ blocks → committee_of S (chain_to e blocks) (round_after e k) ≡ weights_after S.weights (transactions_to e k)
  committee-after k h =
      let s = last (chain_to e k) + 1 in
      let i : round_after e k - S.lookback ≡ s = omega arith in
      let b = all-below n t blocks whole-state.rounds k h in
      committee-bonded S (chain_to e blocks) (round_after e k) (omega arith)
      ∙ rw i (bonded-below S t blocks whole-state.rounds s k blocks h (omega arith) (next-above k) ∙ bonded-journal S s (chain_to e k) (rw (last-chain n t k) b))

  known-after : (k : ℕ) → k ≤ blocks → Knows e (round_after e k)
  unfolding known_by
  known-after k h =
      let u = last_up n t blocks whole-state.rounds k blocks h (omega arith) in
      le-leb (round_after e k) (S.lookback + (last (chain_to e blocks) + 2)) (omega (arith, u, last-chain n t k, last-chain n t blocks))

  adds_up-to : (k : ℕ) → k ≤ blocks → AddsUpTo e k
  adds_up-to k h =
      let long : length S.weights ≡ 16 = rw (r.good.settings, filled-weights r.sheet) (length-tab (λ i. weight (weight_at r.sheet.weights i)) 16) in
      let q = journal-fit t S.allowance blocks n whole-state.rows S k in
      record {
        known = known-after k h;
        each = λ m l. rw (committee-after k h) (member_adds S.weights (transactions_to e k) m long l);
        whole = rw (committee-after k h) (total_adds S.weights (transactions_to e k) long q);
      }

  adds_up : AddsUp e
  adds_up =
      record {
        after_all = adds_up-to blocks (omega arith);
        after_each = adds_up-to;
        bounded = λ z. committee-total S t blocks z whole-state.settings whole-state.rows;
        shown = journal_listed S (chain_to e blocks);
      }

-- of every engine that calls from an accepted open lead to
pub weights_add_up : (e : Engine) → Reached e → AddsUp e
weights_add_up e r = adds_up e (intact r)
