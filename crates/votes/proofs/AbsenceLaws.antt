-- What the checks of a commit answer where a certificate that is in no block is absent: the anchor's turns the commit into a refusal, and a vote where the others weigh not more than the bound.
use Rattle.std.proofs.Common.{◌≡◌, refl, sym, ap, ap₂, ◌∙◌, Bool, true, false, cond, ◌&&◌, List, ◌≢◌, ℕ, zero, suc, ◌+◌, ◌-◌, ◌<◌, ◌≤◌, arith, eqb, eq-eqb, ne_eqb}
use Rattle.base.specs.Checks.{refusal}
use Rattle.base.specs.Sets.{contains}
use Rattle.base.proofs.SumLaws.{sum_same, sum_without}
use Rattle.agreement.specs.Rules.{Chain, last}
use Rattle.agreement.specs.Weights.{total}
use Rattle.terms.specs.Proposals.{Content}
use Rattle.store.specs.Table.{Row, held_set, held_at, previous_at, mark_at}
use Rattle.store.proofs.TableLaws.{held_in}
use Rattle.store.specs.Writes.{clear_held}
use Rattle.store.proofs.WriteLaws.{same_place, place_self}
use Rattle.store.proofs.HeldLaws.{clear-held, block-round-held, held-clear, previous-held}
use Rattle.terms.specs.Ranges.{weight_in}
use Rattle.committee.specs.Chain.{chain_of}
use Rattle.committee.specs.Committees.{committee_of, known_by, bound_of}
use Rattle.chain_committees.specs.BlockChanges.{last_round}
use Rattle.chain_committees.proofs.ChainLaws.{last-chain}
use Rattle.chain_committees.specs.Fill.{leader_at}
use Rattle.rules.specs.Tests.{unknown}
use Rattle.state.specs.declared.State.{State}
use Rattle.state.specs.Formed.{Formed}
use Rattle.state.proofs.WriteLaws.{chain-absent}
use Rattle.state.proofs.PreservedLaws.{absent-kept}
use Rattle.votes.specs.Votes.{votes_at, votes_for}
use Rattle.votes.specs.Checks.{time_checks, vote_checks, committee_on}
use Rattle.votes.proofs.AnchorLaws.{leader_on}
use Rattle.votes.proofs.CheckLaws.{anchor-none, votes-few, votes-enough}
use Rattle.terms.specs.declared.sheet.Weight.{Weight}

module _ (t : List ℕ) (a r : ℕ) (row : Row t r) where
  -- the votes of the round without a's
  votes_without : (x i : ℕ) → i < 16 → votes_at (clear_held t a r) r x i ≡ cond (eqb i a) false (votes_at t r x i)
  unfolding votes_at
  votes_without x i h = rw (held-clear t a r row i r, previous-held (clear-held t a r row) i r h, eq-eqb r r refl) (go (eqb i a) (held_at t i r) (contains (previous_at t i r) x))
    where
      go : (b c d : Bool) → (cond (b && true) false c && d) ≡ cond b false (c && d)
      go true c d = refl
      go false c d = refl

  pub weight_without : (w : List Weight) (x : ℕ) → a < 16 → votes_for (clear_held t a r) w r x + cond (votes_at t r x a) (weight_in w a) 0 ≡ votes_for t w r x
  unfolding votes_for
  weight_without w x h =
      let f : ℕ → ℕ = λ i. cond (votes_at t r x i) (weight_in w i) 0 in
      let g : ℕ → ℕ = λ i. cond (cond (eqb i a) false (votes_at t r x i)) (weight_in w i) 0 in
      ap (λ (k : ℕ). k + f a) (sum_same (λ i. cond (votes_at (clear_held t a r) r x i) (weight_in w i) 0) g 16 (λ i l. ap (λ (b : Bool). cond b (weight_in w i) 0) (votes_without x i l)))
      ∙ sum_without f g 16 a h (rw (eq-eqb a a refl) refl) (λ i n. rw (ne_eqb i a n) refl)

-- in another round the votes are as they were
votes-elsewhere : (t : List ℕ) (a q r : ℕ) → Row t q → r ≢ q → (w : List Weight) (x : ℕ) → votes_for (clear_held t a q) w r x ≡ votes_for t w r x
unfolding votes_for votes_at
votes-elsewhere t a q r row n w x =
    sum_same _ _ 16 (λ i h. rw (held-clear t a q row i r, previous-held (clear-held t a q row) i r h, ne_eqb r q n) (go (eqb i a) (held_at t i r) (contains (previous_at t i r) x) (weight_in w i)))
  where
    go : (b c d : Bool) (k : ℕ) → cond (cond (b && false) false c && d) k 0 ≡ cond (c && d) k 0
    go true c d k = refl
    go false c d k = refl

-- the checks of time look at block rounds alone, so they are as they were whether or not it is in a block
module _ (s : State) (t : List ℕ) (a q : ℕ) (row : Row t q) where
  round_same : (k : ℕ) → last_round (clear_held t a q) k ≡ last_round t k
  unfolding last_round
  round_same zero = refl
  round_same (suc k) = rw (block-round-held (clear-held t a q row) (suc k)) refl

  last-same : last (chain_of s.settings.ceiling (clear_held t a q) s.blocks) ≡ last (chain_of s.settings.ceiling t s.blocks)
  last-same = let n = s.settings.ceiling in last-chain n (clear_held t a q) s.blocks ∙ round_same s.blocks ∙ sym (last-chain n t s.blocks)

  pub time-same : refusal (time_checks s t) ≡ 0 → refusal (time_checks s (clear_held t a q)) ≡ 0
  unfolding unknown known_by
  time-same e = rw last-same e

module _ (s : State) (t : List ℕ) (f : Formed s t) (from : 1 < s.round) (led : contains (held_set t (s.round - 1)) (leader_on s t (s.round - 1)) ≡ true) (a : ℕ) (m : a < 16) where
  abbrev r : ℕ
  r = s.round

  abbrev x : ℕ
  x = leader_on s t (r - 1)

  abbrev w : List Weight
  w = committee_on s t r

  abbrev bound : ℕ
  bound = bound_of s.settings.margin (total 16 (weight_in w))

  module _ (q : ℕ) (z : 0 < q) (l : q ≤ s.settings.ceiling) (free : mark_at t a q ≡ 0) where
    abbrev u : List ℕ
    u = clear_held t a q

    row : Row t q
    row = omega (arith, f.long)

    kept : Formed s u
    kept = absent-kept s t f a q m z l

    chain_same : chain_of s.settings.ceiling u s.blocks ≡ chain_of s.settings.ceiling t s.blocks
    chain_same = chain-absent s.settings.ceiling t a q row free s.blocks

    -- the leader and the committee are as they were
    leader-same : leader_on s u (r - 1) ≡ x
    leader-same = ap (λ (c : Chain Content). leader_at s.settings c (r - 1)) chain_same

    committee-same : committee_on s u r ≡ w
    committee-same = ap (λ (c : Chain Content). committee_of s.settings c r) chain_same

    held_then : contains (held_set u (r - 1)) (leader_on s u (r - 1)) ≡ cond (same_place x (r - 1) a q) false true
    held_then = rw (leader-same, sym (held_in u x (r - 1)), held-clear t a q row x (r - 1), held_in t x (r - 1), led) refl

    -- where it is the anchor
    pub anchor-absent : a ≡ x → q ≡ r - 1 → refusal (vote_checks s u) ≡ 21
    anchor-absent e k = sym (anchor-none s u kept from (held_then ∙ rw (e, k, place_self x (r - 1)) refl))

    module _ (other : same_place x (r - 1) a q ≡ false) where
      still : contains (held_set u (r - 1)) (leader_on s u (r - 1)) ≡ true
      still = held_then ∙ rw other refl

      weighed : votes_for u (committee_on s u r) r (leader_on s u (r - 1)) ≡ votes_for u w r x
      weighed = ap₂ (λ (v : List Weight) (y : ℕ). votes_for u v r y) committee-same leader-same

      bound-same : bound_of s.settings.margin (total 16 (weight_in (committee_on s u r))) ≡ bound
      bound-same = ap (λ (v : List Weight). bound_of s.settings.margin (total 16 (weight_in v))) committee-same

      -- where it is not, the votes decide
      pub few-left : votes_for u w r x ≤ bound → refusal (vote_checks s u) ≡ 22
      few-left h = sym (votes-few s u kept from still (rw (weighed, bound-same) h))

      pub enough-left : bound < votes_for u w r x → refusal (vote_checks s u) ≡ 0
      enough-left h = sym (votes-enough s u kept from still (rw (weighed, bound-same) h))

      pub votes-left : q ≢ r → votes_for u w r x ≡ votes_for t w r x
      votes-left n = votes-elsewhere t a q r row (λ e. n (sym e)) w x
