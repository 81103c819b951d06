-- Laws of the leaders that a commit takes.
use Rattle.std.proofs.Common.{◌≡◌, refl, sym, ap, ◌∙◌, Bool, true, false, cond, List, ◌≢◌, ℕ, zero, suc, ◌+◌, ◌-◌, ◌<◌, ◌≤◌, arith, add-one, get_or, set, length, length-set, get_or-set_same, get_or-set_other}
use Rattle.base.proofs.Words.{ℕ_discrete}
use Rattle.base.proofs.Bools.{both}
use Rattle.base.specs.Sets.{contains}
use Rattle.store.specs.Table.{held_at}
use Rattle.blocks.specs.History.{below}
use Rattle.blocks.proofs.HistoryLaws.{in_below}
use Rattle.blocks.specs.Anchors.{take_set, take_row, take_from}

-- ---- one leader

module _ (l : List ℕ) (r u : ℕ) where
  row-length : length (take_row l r u) ≡ length l
  unfolding take_row
  row-length = go (contains u (get_or l r 0))
    where
      go : (b : Bool) → length (cond b l (set l r 16)) ≡ length l
      go true = refl
      go false = length-set l r 16

  -- the other rounds' leaders stay
  pub row_other : (j : ℕ) → j ≢ r → get_or (take_row l r u) j 0 ≡ get_or l j 0
  unfolding take_row
  row_other j n = go (contains u (get_or l r 0))
    where
      go : (b : Bool) → get_or (cond b l (set l r 16)) j 0 ≡ get_or l j 0
      go true = refl
      go false = get_or-set_other l r j 16 0 n

  -- that of r stays if it is in u
  pub row_same : r < length l → get_or (take_row l r u) r 0 ≡ cond (contains u (get_or l r 0)) (get_or l r 0) 16
  unfolding take_row
  row_same w = go (contains u (get_or l r 0))
    where
      go : (b : Bool) → get_or (cond b l (set l r 16)) r 0 ≡ cond b (get_or l r 0) 16
      go true = refl
      go false = get_or-set_same l r 16 0 w

  row-left : r < length l → get_or (take_row l r u) r 0 < 16 → (get_or (take_row l r u) r 0 ≡ get_or l r 0) × (contains u (get_or l r 0) ≡ true)
  row-left w h = go (contains u (get_or l r 0)) refl (row_same w)
    where
      go : (b : Bool) → contains u (get_or l r 0) ≡ b → get_or (take_row l r u) r 0 ≡ cond b (get_or l r 0) 16 → (get_or (take_row l r u) r 0 ≡ get_or l r 0) × (contains u (get_or l r 0) ≡ true)
      go true e k = (k, e)
      go false e k = absurd (omega arith)

-- ---- the leaders of the n rounds above m

module _ (t : List ℕ) where
  -- the rounds from m + 1 to r
  pub take_step : (m r s : ℕ) (l : List ℕ) → m < r
      → take_from t m (r - m) s l ≡ take_from t m (r - 1 - m) (take_set l r (below t s (r + 1))) (take_row l r (below t s (r + 1)))
  unfolding take_from
  take_step m r s l h =
      let e : r - m ≡ suc (r - 1 - m) = omega arith in
      let k : m + suc (r - 1 - m) ≡ r = omega arith in
      rw e (ap (λ (z : ℕ). take_from t m (r - 1 - m) (take_set l z (below t s (z + 1))) (take_row l z (below t s (z + 1)))) k)

  pub take_done : (m r s : ℕ) (l : List ℕ) → r ≤ m → take_from t m (r - m) s l ≡ l
  unfolding take_from
  take_done m r s l h = let e : r - m ≡ 0 = omega arith in rw e refl

  -- leaders of other rounds stay
  pub take-other : (m n s j : ℕ) (l : List ℕ) → (m < j → m + n < j) → get_or (take_from t m n s l) j 0 ≡ get_or l j 0
  unfolding take_from
  take-other m zero s j l h = refl
  take-other m (suc n) s j l h = take-other m n _ j _ (λ i. omega (arith, h i)) ∙ row_other l (m + suc n) (below t s (m + suc n + 1)) j (λ e. omega (arith, h (omega arith)))

  -- whoever is left was there, and in those rounds its certificate is held
  pub take_left : (m n s j : ℕ) (l : List ℕ) → m + n < length l → get_or (take_from t m n s l) j 0 < 16
      → (get_or (take_from t m n s l) j 0 ≡ get_or l j 0) × (m < j → j ≤ m + n → held_at t (get_or l j 0) j ≡ true)
  unfolding take_from
  take_left m zero s j l w h = (refl, λ a b. absurd (omega arith))
  take_left m (suc n) s j l w h = go (ℕ_discrete j r) (take_left m n (take_set l r u) j k (omega (arith, row-length l r u)) h)
    where
      r : ℕ
      r = m + suc n

      u : ℕ
      u = below t s (r + 1)

      k : List ℕ
      k = take_row l r u

      go : Dec (j ≡ r) → (get_or (take_from t m n (take_set l r u) k) j 0 ≡ get_or k j 0) × (m < j → j ≤ m + n → held_at t (get_or k j 0) j ≡ true)
          → (get_or (take_from t m n (take_set l r u) k) j 0 ≡ get_or l j 0) × (m < j → j ≤ m + suc n → held_at t (get_or l j 0) j ≡ true)
      go (yes e) f =
          let x = row-left l r u w (rw (f.0, e) at h) in
          let z : held_at t (get_or l r 0) r ≡ true = (both (held_at t (get_or l r 0) r) _ (sym (in_below t s r (get_or l r 0)) ∙ (rw add-one at x.1))).0 in
          (f.0 ∙ (rw e x.0), λ a b. rw e z)
      go (no e) f = let x = row_other l r u j e in (f.0 ∙ x, λ a b. rw x at (f.1 a (omega arith)))
