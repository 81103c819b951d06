-- What an accepted commit finds.
use Rattle.std.proofs.Common.{◌≡◌, refl, sym, ◌∙◌, true, List, ℕ, suc, ◌+◌, ◌-◌, ◌<◌, ◌≤◌, arith, get_or, leb-true}
use Rattle.base.proofs.Words.{ℕ_discrete}
use Rattle.base.proofs.CheckLaws.{cleared}
use Rattle.agreement.specs.Rules.{last}
use Rattle.store.specs.Table.{held_at}
use Rattle.store.proofs.TableLaws.{held_in}
use Rattle.scan.proofs.ScanLaws.{rows-held}
use Rattle.committee.specs.Chain.{chain_of}
use Rattle.committee.specs.Committees.{committee_of, leader_by, known_by}
use Rattle.chain_committees.specs.BlockChanges.{last_round}
use Rattle.chain_committees.proofs.ChainLaws.{last-chain}
use Rattle.chain_committees.specs.Fill.{leader_at}
use Rattle.blocks.specs.Anchors.{taken_leaders}
use Rattle.blocks.proofs.TakenLaws.{taken-left}
use Rattle.rules.proofs.TestLaws.{is_known}
use Rattle.state.specs.declared.State.{State}
use Rattle.state.specs.View.{view}
use Rattle.state.proofs.RefusalLaws.{refusal-passed}
use Rattle.votes.specs.Checks.{leaders_for}
use Rattle.votes.proofs.AnchorLaws.{leader_on, leaders-on, leaders-length}
use Rattle.commit.specs.Commit.{commit_refusal}
use Rattle.commit.proofs.CheckLaws.{Accepted, accepted}
use Rattle.preview.proofs.StageLaws.{Anchored}
use Rattle.rules.specs.Calls as rules

module _ (s : State) (t : List ℕ) (ok : commit_refusal s t ≡ 0) where
  abbrev n : ℕ
  n = s.settings.ceiling

  abbrev k : ℕ
  k = s.blocks

  abbrev m : ℕ
  m = last_round t k

  abbrev top : ℕ
  top = s.round - 1

  abbrev l : List ℕ
  l = leaders_for s t

  abbrev left : List ℕ
  left = taken_leaders t m top l

  y : Accepted s t
  y = accepted s t ok

  -- the committee of the round is known
  known : top ≤ s.settings.lookback + suc m
  unfolding commit_refusal known_by
  known =
      let p = cleared _ 19 _ (omega arith) (refusal-passed s t rules.commit ok).1 in
      let q = cleared _ 20 _ (omega arith) p.1 in
      let w = cleared _ 8 _ (omega arith) q.1 in
      let h = leb-true s.round (s.settings.lookback + (last (chain_of n t k) + 2)) (is_known s.settings (view s t) s.round w.0) in
      omega (arith, last-chain n t k)

  module _ (r : ℕ) (from : m < r) (to : r ≤ top) (low : get_or left r 0 < 16) where
    -- whoever is left leads its round
    leads : get_or left r 0 ≡ leader_on s t r
    leads =
        let f = y.formed in
        let size = leaders-length s t l refl in
        (taken-left t m top l y.timely.above (omega (arith, f.numbers.round_to, f.settings.ceiling_to)) r low).0
        ∙ leaders-on s t r from (omega (arith, y.timely.from)) (omega (arith, f.numbers.round_to, f.settings.ceiling_to))

    led : leader_by (committee_of s.settings (chain_of n t k) r) r ≡ get_or left r 0
    unfolding leader_at
    led = sym leads

    -- and its certificate is held
    held : held_at t (get_or left r 0) r ≡ true
    held = go (ℕ_discrete r top)
      where
        go : Dec (r ≡ top) → held_at t (get_or left r 0) r ≡ true
        go (yes e) = rw (leads, e, held_in t (leader_on s t top) top) y.led
        go (no e) =
            let f = y.formed in
            let size = leaders-length s t l refl in
            let w = taken-left t m top l y.timely.above (omega (arith, f.numbers.round_to, f.settings.ceiling_to)) r low in
            rw w.0 (w.1 from (omega arith))

  pub anchored : Anchored s.settings t l m top k
  anchored =
      let f = y.formed in
      record {
        few = y.timely.few;
        above = y.timely.above;
        inside = omega (arith, f.numbers.round_to);
        known = known;
        table = f.long;
        marked = λ i q from to h. ((rows-held t s.settings.allowance k n f.rows q from to).records i h).mark;
        held = held;
        led = led;
      }
