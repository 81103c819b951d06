-- Laws of the leaders by round, and of a list that is filled by round.
use Rattle.std.proofs.Common.{◌≡◌, refl, ◌∙◌, List, ℕ, zero, suc, ◌+◌, ◌-◌, ◌≤◌, ◌<◌, arith, get_or, set, length, length-set, get_or-set_same, get_or-set_other, unwrap_or}
use Rattle.base.proofs.Words.{ℕ_discrete}
use Rattle.agreement.specs.Rules.{Chain}
use Rattle.terms.specs.Proposals.{Content}
use Rattle.terms.specs.declared.sheet.Settings.{Settings}
use Rattle.terms.specs.Ranges.{weight_in}
use Rattle.committee.specs.Committees.{committee_of, leader_by}
use Rattle.committee.specs.Leaders.{leader_of}
use Rattle.chain_committees.specs.Fill.{leader_at, fill_to}

-- the leader of a round is that of its committee
pub leader-at : (S : Settings) (c : Chain Content) (r : ℕ) → leader_at S c r ≡ unwrap_or (leader_of (weight_in (committee_of S c r)) r) 16
unfolding leader_at leader_by
leader-at S c r = refl

module _ (g : ℕ → ℕ) (m : ℕ) (l : List ℕ) where
  pub fill_length : (n : ℕ) → length (fill_to g m n l) ≡ length l
  unfolding fill_to
  fill_length zero = refl
  fill_length (suc n) = length-set (fill_to g m n l) (m + suc n) (g (m + suc n)) ∙ fill_length n

  -- no round yet
  pub fill_none : l ≡ fill_to g m (m - m) l
  unfolding fill_to
  fill_none = let e : m - m ≡ 0 = omega arith in rw e refl

  -- one round more
  pub fill_more : (r : ℕ) → m ≤ r → fill_to g m (r + 1 - m) l ≡ set (fill_to g m (r - m) l) (r + 1) (g (r + 1))
  unfolding fill_to
  fill_more r h =
      let e : r + 1 - m ≡ suc (r - m) = omega arith in
      let i : m + suc (r - m) ≡ r + 1 = omega arith in
      rw (e, i) refl

  -- what the rounds read then
  pub fill_at : (n q : ℕ) → m < q → q ≤ m + n → m + n < length l → get_or (fill_to g m n l) q 0 ≡ g q
  unfolding fill_to
  fill_at zero q h i w = absurd (omega arith)
  fill_at (suc n) q h i w = go (ℕ_discrete q (m + suc n)) (λ j. fill_at n q h j (omega arith))
    where
      go : Dec (q ≡ m + suc n) → (q ≤ m + n → get_or (fill_to g m n l) q 0 ≡ g q) → get_or (set (fill_to g m n l) (m + suc n) (g (m + suc n))) q 0 ≡ g q
      go (yes e) f = rw e (get_or-set_same (fill_to g m n l) (m + suc n) (g (m + suc n)) 0 (omega (arith, fill_length n)))
      go (no e) f = get_or-set_other (fill_to g m n l) (m + suc n) q (g (m + suc n)) 0 e ∙ f (omega arith)
