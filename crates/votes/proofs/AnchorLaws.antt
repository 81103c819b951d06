-- The anchors that a table tells, and the votes for them.
use Rattle.std.proofs.Common.{◌≡◌, refl, ap, ◌∙◌, Bool, not, cond, List, ℕ, suc, ◌-◌, ◌%◌, ◌<◌, ◌≤◌, arith, ltb, get_or, length, replicate, Option, Some, None, unwrap_or}
use Rattle.base.proofs.Words.{ℕ_discrete}
use Rattle.base.specs.Sets.{contains}
use Rattle.base.proofs.SetLaws.{not_in}
use Rattle.base.proofs.SumLaws.{sum_same}
use Rattle.agreement.specs.Weights.{total}
use Rattle.agreement.specs.Rules.{Chain}
use Rattle.agreement.specs.Commits.{by_leader, anchor_at}
use Rattle.terms.specs.Proposals.{Content}
use Rattle.store.specs.Table.{held_set, content_at}
use Rattle.store.proofs.TableLaws.{held_in, certificate-at, content-author, content-round}
use Rattle.terms.specs.Ranges.{weight_in}
use Rattle.committee.specs.Chain.{chain_of}
use Rattle.committee.specs.Committees.{bound_of}
use Rattle.committee.specs.Leaders.{leader_of}
use Rattle.committee.proofs.LeaderLaws.{leader-odd}
use Rattle.chain_committees.specs.BlockChanges.{last_round}
use Rattle.chain_committees.specs.Fill.{leader_at, fill_to}
use Rattle.chain_committees.proofs.FillLaws.{leader-at, fill_at, fill_length}
use Rattle.rules.specs.Tests.{unvoted}
use Rattle.rules.proofs.TestLaws.{unvoted_not}
use Rattle.state.specs.declared.State.{State}
use Rattle.state.specs.View.{view}
use Rattle.state.proofs.ViewLaws.{dag-at, vote-dag}
use Rattle.votes.specs.Votes.{votes_at, votes_for}
use Rattle.votes.specs.Checks.{committee_on, leaders_for}

module _ (s : State) (t : List ℕ) where
  abbrev chain : Chain Content
  chain = chain_of s.settings.ceiling t s.blocks

  -- the leader of round q, 16 for none
  abbrev pub leader_on : ℕ → ℕ
  leader_on q = leader_at s.settings chain q

  -- the anchor of round q is the leader's certificate, if it is held
  pub anchor-on : (q : ℕ) → 0 < q → q ≤ s.settings.ceiling → anchor_at (view s t) q ≡ cond (contains (held_set t q) (leader_on q)) (Some (content_at t (leader_on q) q)) None
  unfolding anchor_at
  anchor-on q from to = rw (leader-at s.settings chain q) (go (leader_of (weight_in (committee_on s t q)) q))
    where
      go : (o : Option ℕ) → by_leader (view s t) q o ≡ cond (contains (held_set t q) (unwrap_or o 16)) (Some (content_at t (unwrap_or o 16) q)) None
      go None = rw (not_in (held_set t q) 16 (omega arith)) refl
      go (Some a) = dag-at s.settings.ceiling t a q from to ∙ rw (certificate-at t a q, held_in t a q) refl

  -- check 22: the votes of the round above it weigh not more than the bound
  pub unvoted-on : (a q : ℕ) → suc q ≤ s.settings.ceiling
      → unvoted s.settings (view s t) (content_at t a q) ≡ not (ltb (bound_of s.settings.margin (total 16 (weight_in (committee_on s t (suc q))))) (votes_for t (committee_on s t (suc q)) (suc q) a))
  unfolding votes_for votes_at
  unvoted-on a q to =
      let w = weight_in (committee_on s t (suc q)) in
      unvoted_not s.settings (view s t) (content_at t a q)
      ∙ rw (content-round t a q, content-author t a q)
      (ap (λ (z : ℕ). not (ltb (bound_of s.settings.margin (total 16 w)) z))
      (sum_same _ _ 16 (λ i h. ap (λ (b : Bool). cond b (w i) 0) (vote-dag s.settings.ceiling t i (suc q) (omega arith) to s.settings a))))

  -- only even rounds have leaders
  pub leader-even : (q : ℕ) → leader_on q < 16 → q % 2 ≡ 0
  leader-even q h = go (ℕ_discrete (q % 2) 0)
    where
      go : Dec (q % 2 ≡ 0) → q % 2 ≡ 0
      go (yes e) = e
      go (no d) = absurd (omega (arith, leader-at s.settings chain q ∙ ap (λ (o : Option ℕ). unwrap_or o 16) (leader-odd (weight_in (committee_on s t q)) q d)))

  -- ---- the leaders that a commit uses

  -- the list as it is filled, where m is the last block's round
  pub leaders-filled : (l : List ℕ) (m : ℕ) → l ≡ fill_to (leader_at s.settings chain) m (s.round - 1 - m) (replicate 1025 16) → m ≡ last_round t s.blocks → l ≡ leaders_for s t
  unfolding leaders_for
  leaders-filled l m h e = h ∙ ap (λ (z : ℕ). fill_to (leader_at s.settings chain) z (s.round - 1 - z) (replicate 1025 16)) e

  pub leaders-length : (l : List ℕ) → l ≡ leaders_for s t → length l ≡ 1025
  unfolding leaders_for
  leaders-length l e = ap length e ∙ fill_length (leader_at s.settings chain) (last_round t s.blocks) (replicate 1025 16) (s.round - 1 - last_round t s.blocks)

  pub leaders-on : (q : ℕ) → last_round t s.blocks < q → q < s.round → s.round ≤ 1024 → get_or (leaders_for s t) q 0 ≡ leader_on q
  unfolding leaders_for
  leaders-on q h l to =
      let e : length {A = ℕ} (replicate 1025 16) ≡ 1025 = refl in
      fill_at (leader_at s.settings chain) (last_round t s.blocks) (replicate 1025 16) (s.round - 1 - last_round t s.blocks) q h (omega arith) (omega (arith, e))
