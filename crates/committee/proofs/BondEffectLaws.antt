-- No share moves by more than 1 plus the whole part of 1,000 times the amount divided by the total after the bond.
use Rattle.std.proofs.Common.{◌≡◌, sym, ◌∙◌, Bool, true, false, cond, List, ℕ, zero, suc, ◌+◌, ◌*◌, ◌<◌, ◌≤◌, max, arith, length, get_or, eqb}
use Rattle.base.proofs.Words.{ℕ_discrete, dec_lt}
use Rattle.base.proofs.Ranges.{fold_none, fold_next}
use Rattle.base.proofs.FoldLaws.{get_d_tab}
use Rattle.base.proofs.SumLaws.{sum_same, sum_add, sum_at, sum_only}
use Rattle.terms.specs.declared.sheet.Weight.{Weight}
use Rattle.terms.specs.Ranges.{weight_in}
use Rattle.committee.specs.Shares.{share_of, apart, PartOf}
use Rattle.committee.proofs.ShareLaws.{nearest_le}
use Rattle.committee.proofs.MoveLaws.{moves}
use Rattle.committee.specs.Totals.{total_in}
use Rattle.committee.proofs.ChangeLaws.{bond-at}
use Rattle.committee.specs.BondEffects.{share_in, shares_of, bonded, largest_to, bond_effect, most_moved, TotalOf}

pub share-at : (w : List Weight) (i : ℕ) → i < 16 → get_or (shares_of w) i 0 ≡ share_in w i
unfolding shares_of
share-at w i h = get_d_tab (share_in w) 16 i 0 h

-- a non-member's share is 0
pub share-none : (n : ℕ) → 0 < n → share_of 0 n ≡ 0
unfolding share_of
share-none n h = let l = nearest_le (1000 * 0) n 0 h (omega arith) in omega arith

pub ruleset unweighted = share-none

-- each weight is a part of the total
pub part_of_total : {w : List Weight} {n : ℕ} → TotalOf w n → (i : ℕ) → i < 16 → PartOf (weight_in w i) n
part_of_total {w} p i h = record { some = p.some; part = omega (arith, sum_at (weight_in w) 16 i h, p.total); bounded = p.bounded }

-- ---- the largest difference

largest_none : (x y : List ℕ) → 0 ≡ largest_to 0 x y
unfolding largest_to
largest_none x y = sym (fold_none (λ i d. max d (apart (get_or x i 0) (get_or y i 0))) 0)

largest_next : (x y : List ℕ) (n : ℕ) → largest_to (suc n) x y ≡ max (largest_to n x y) (apart (get_or x n 0) (get_or y n 0))
unfolding largest_to
largest_next x y n = fold_next (λ i d. max d (apart (get_or x i 0) (get_or y i 0))) n 0

-- where none is above b, neither is the largest
pub largest_le : (x y : List ℕ) (b n : ℕ) → ((i : ℕ) → i < n → apart (get_or x i 0) (get_or y i 0) ≤ b) → largest_to n x y ≤ b
largest_le x y b zero h = omega (arith, largest_none x y)
largest_le x y b (suc n) h = let p = largest_le x y b n (λ i l. h i (omega arith)) in let q = h n (omega arith) in rw (largest_next x y n) (omega arith)

-- none is above it
pub at-most-largest : (x y : List ℕ) (n i : ℕ) → i < n → apart (get_or x i 0) (get_or y i 0) ≤ largest_to n x y
at-most-largest x y zero i h = absurd (omega arith)
at-most-largest x y (suc n) i h = rw (largest_next x y n) (go (ℕ_discrete i n) (λ l. at-most-largest x y n i l))
  where
    go : Dec (i ≡ n) → (i < n → apart (get_or x i 0) (get_or y i 0) ≤ largest_to n x y) → apart (get_or x i 0) (get_or y i 0) ≤ max (largest_to n x y) (apart (get_or x n 0) (get_or y n 0))
    go (yes e) k = rw e (omega arith)
    go (no e) k = let q = k (omega arith) in omega arith

larger-last : (m d : ℕ) → m < d → d ≡ max m d
larger-last m d l = omega arith

larger-before : (m d : ℕ) → (m < d → ⊥) → m ≡ max m d
larger-before m d l = omega arith

-- and one is it
pub is-largest : (x y : List ℕ) (n : ℕ) → (i : ℕ) × (i < suc n) × (apart (get_or x i 0) (get_or y i 0) ≡ largest_to (suc n) x y)
is-largest x y zero = (0, omega arith, rw (largest_next x y 0, ← largest_none x y) (omega arith))
is-largest x y (suc n) = rw (largest_next x y (suc n)) (go (dec_lt (largest_to (suc n) x y) (apart (get_or x (suc n) 0) (get_or y (suc n) 0))) (is-largest x y n))
  where
    go : Dec (largest_to (suc n) x y < apart (get_or x (suc n) 0) (get_or y (suc n) 0)) → (i : ℕ) × (i < suc n) × (apart (get_or x i 0) (get_or y i 0) ≡ largest_to (suc n) x y)
        → (i : ℕ) × (i < suc (suc n)) × (apart (get_or x i 0) (get_or y i 0) ≡ max (largest_to (suc n) x y) (apart (get_or x (suc n) 0) (get_or y (suc n) 0)))
    go (yes l) k = (suc n, omega arith, larger-last (largest_to (suc n) x y) (apart (get_or x (suc n) 0) (get_or y (suc n) 0)) l)
    go (no l) k = (k.0, omega (arith, k.1), k.2 ∙ larger-before (largest_to (suc n) x y) (apart (get_or x (suc n) 0) (get_or y (suc n) 0)) l)

-- ---- a bond

module _ (w : List Weight) (m a : ℕ) (l : length w ≡ 16) (h : m < 16) where
  -- the total after it
  pub total-bonded : total_in (bonded m a w) ≡ total_in w + a
  total-bonded =
      let s = sum_same (weight_in (bonded m a w)) (λ i. cond (eqb m i) a 0 + weight_in w i) 16 (λ i k. bond-at m a w i l k) in
      let t = sum_add (λ i. cond (eqb m i) a 0) (weight_in w) 16 in
      let u = (sum_only (λ i. a) m 16).1 h in
      omega arith

  pub ruleset after_bond = total-bonded

  pub effect_le : 0 < total_in w → (bond_effect m a w).largest ≤ most_moved (total_in w) a
  unfolding bond_effect
  effect_le z = largest_le (shares_of w) (shares_of (bonded m a w)) (most_moved (total_in w) a) 16 each
    where
      some : (b : Bool) → cond b a 0 ≤ a
      some true = omega arith
      some false = omega arith

      each : (i : ℕ) → i < 16 → apart (get_or (shares_of w) i 0) (get_or (shares_of (bonded m a w)) i 0) ≤ most_moved (total_in w) a
      each i k =
          let e = bond-at m a w i l k in
          let c = some (eqb m i) in
          rw (share-at w i k, share-at (bonded m a w) i k, total-bonded)
          (moves (total_in w) a (weight_in w i) (weight_in (bonded m a w) i) z (sum_at (weight_in w) 16 i k) (omega arith) (omega arith))
