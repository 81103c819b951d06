-- The claims of every read of a bond's effect that is accepted.
use Rattle.std.proofs.Common.{◌≡◌, refl, sym, ◌∙◌, List, ℕ, ◌<◌, arith, length, ltb-false, ne_eqb}
use Rattle.base.proofs.Words.{eqb-false}
use Rattle.base.proofs.CheckLaws.{numbered}
use Rattle.base.proofs.Passed.{passed}
use Rattle.committee.specs.Totals.{total_in}
use Rattle.committee.proofs.ChangeLaws.{bond-at}
use Rattle.committee.proofs.BondedLaws.{length-committee}
use Rattle.committee.specs.BondEffects.{shares_of, bonded, bond_effect, most_moved}
use Rattle.committee.proofs.BondEffectLaws.{share-at, share-none, at-most-largest, is-largest, total-bonded, effect_le}
use Rattle.rules.specs.Reads.{committee_read, effect_read, share_read}
use Rattle.state.specs.declared.State.{State}
use Rattle.state.specs.View.{view}
use Rattle.reads.specs.Reads.{share_refusal, effect_refusal, effect_checks}
use Rattle.reads.specs.Bounds.{total_at, moved_at}
use Rattle.terms.specs.declared.sheet.Weight.{Weight}
use Rattle.std.specs.Prelude.{◌≤◌, get_or, ◌≢◌}
use Rattle.rules.specs.Tests.{committee_in}

module _ (s : State) (t : List ℕ) where
  abbrev weights : ℕ → List Weight
  weights r = committee_read s.settings (view s t) r

  -- the checks that an accepted one has passed
  accepted-total : (m r a : ℕ) → effect_refusal s t m r a ≡ 0 → (m < 16) × (0 < total_in (weights r))
  unfolding effect_refusal numbered
  accepted-total m r a e =
      passed (effect_checks s t m r a) refl e λ h1 h4 h5 h6 h8 h30.
      (omega (arith, ltb-false 15 m h4), (let z = eqb-false (total_in (weights r)) 0 h30 in omega arith))

  -- of states with sixteen starting weights, as every state has that is read from words or opened
  pub effect_bounded : length s.settings.weights ≡ 16 → (m r a : ℕ) → effect_refusal s t m r a ≡ 0 → (effect_read s.settings (view s t) m r a).largest ≤ most_moved (total_at s t r) a
  effect_bounded l m r a e =
      let k = accepted-total m r a e in
      (effect_le (weights r) m a (length-committee s.settings (view s t).chain r ∙ l) k.0 k.1)

  -- no share moves further than the largest difference
  pub none_moves_further : (m r a : ℕ) → effect_refusal s t m r a ≡ 0 → (i : ℕ) → i < 16
      → moved_at (effect_read s.settings (view s t) m r a) i ≤ (effect_read s.settings (view s t) m r a).largest
  unfolding bond_effect
  none_moves_further m r a e = at-most-largest (shares_of (weights r)) (shares_of (bonded m a (weights r))) 16

  -- and one moves as far
  pub one_moves_as_far : (m r a : ℕ) → effect_refusal s t m r a ≡ 0
      → (i : ℕ) × (i < 16) × (moved_at (effect_read s.settings (view s t) m r a) i ≡ (effect_read s.settings (view s t) m r a).largest)
  unfolding bond_effect
  one_moves_as_far m r a e = is-largest (shares_of (weights r)) (shares_of (bonded m a (weights r))) 15

  pub member_shared : (i r : ℕ) → share_refusal s t i r ≡ 0 → i < 16
  unfolding share_refusal numbered
  member_shared i r e = passed _ refl e λ h1 h4 h5 h8 h9. omega (arith, ltb-false 15 i h4)

  -- a share that can be read is the one before the bond
  pub effect_of_shares : (m r a i : ℕ) → effect_refusal s t m r a ≡ 0 → share_refusal s t i r ≡ 0 → get_or (effect_read s.settings (view s t) m r a).before i 0 ≡ share_read s.settings (view s t) i r
  unfolding bond_effect
  effect_of_shares m r a i e k = share-at (weights r) i (member_shared i r k)

  -- a non-member's is 0
  pub none_before : (m r a i : ℕ) → effect_refusal s t m r a ≡ 0 → i < 16 → committee_in s.settings (view s t) r i ≡ 0
      → get_or (effect_read s.settings (view s t) m r a).before i 0 ≡ 0
  unfolding bond_effect
  none_before m r a i e h z = share-at (weights r) i h ∙ rw z (share-none (total_in (weights r)) (accepted-total m r a e).1)

  -- and stays 0 unless it is the one that bonds
  pub none_after : length s.settings.weights ≡ 16 → (m r a i : ℕ) → effect_refusal s t m r a ≡ 0 → i < 16 → committee_in s.settings (view s t) r i ≡ 0 → i ≢ m
      → get_or (effect_read s.settings (view s t) m r a).after i 0 ≡ 0
  unfolding bond_effect
  none_after l m r a i e h z n =
      let k = accepted-total m r a e in
      let w = weights r in
      let j : length w ≡ 16 = length-committee s.settings (view s t).chain r ∙ l in
      share-at (bonded m a w) i h ∙ rw (bond-at m a w i j h, ne_eqb m i (λ q. n (sym q)), z) (share-none (total_in (bonded m a w)) (let b = total-bonded w m a j k.0 in omega arith))
