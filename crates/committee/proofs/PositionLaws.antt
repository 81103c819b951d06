-- Laws of members by position.
use Rattle.std.proofs.Common.{◌≡◌, refl, Bool, true, false, cond, ◌&&◌, ℕ, zero, suc, ◌+◌, ◌-◌, ◌<◌, ◌≤◌, arith, add-zero, add-suc, eqb, eq-eqb, ne_eqb, Option, Some, None, unwrap_or}
use Rattle.base.proofs.Words.{and-false, ℕ_discrete}
use Rattle.base.proofs.SumLaws.{sum_same}
use Rattle.base.proofs.Ranges.{sum_none, sum_next}
use Rattle.base.specs.Sets.{mem}
use Rattle.committee.specs.Positions.{count_below, member_below, place_in}

-- ---- counting

pub count_none : (set : ℕ → Bool) → count_below set 0 ≡ 0
unfolding count_below
count_none set = sum_none (λ i. cond (set i) 1 0)

pub count_more : (set : ℕ → Bool) (n : ℕ) → count_below set (suc n) ≡ count_below set n + cond (set n) 1 0
unfolding count_below
count_more set n = sum_next (λ i. cond (set i) 1 0) n

-- of the numbers below n at most n are in a set
pub count_le : (set : ℕ → Bool) (n : ℕ) → count_below set n ≤ n
count_le set zero = omega (arith, count_none set)
count_le set (suc n) = rw (count_more set n) (go (set n) (count_le set n))
  where
    go : (b : Bool) → count_below set n ≤ n → count_below set n + cond b 1 0 ≤ suc n
    go true h = omega arith
    go false h = omega arith

-- those below c, and those from c on by their number above c
pub count-split : (set : ℕ → Bool) (c n : ℕ) → count_below set (c + n) ≡ count_below set c + count_below (λ i. set (c + i)) n
count-split set c zero = rw (add-zero c, count_none (λ i. set (c + i))) (omega arith)
count-split set c (suc n) = let h = count-split set c n in rw (add-suc c n, count_more set (c + n), count_more (λ i. set (c + i)) n) (omega arith)

-- ---- positions

-- nobody stands at a position that the count does not reach
pub below_none : (set : ℕ → Bool) (n k : ℕ) → count_below set n ≤ k → member_below set n k ≡ None
unfolding member_below
below_none set zero k h = refl
below_none set (suc n) k h = go (set n) (rw (count_more set n) at h) (λ l. below_none set n k l)
  where
    go : (b : Bool) → count_below set n + cond b 1 0 ≤ k → (count_below set n ≤ k → member_below set n k ≡ None)
        → cond (b && eqb (count_below set n) k) (Some n) (member_below set n k) ≡ None
    go true h f = rw (ne_eqb (count_below set n) k (λ e. omega arith)) (f (omega arith))
    go false h f = f (omega arith)

-- somebody stands at a position below the count: what is told for none does not matter
pub below-some : (m m' : ℕ) (set : ℕ → Bool) (n k : ℕ) → k < count_below set n → unwrap_or (member_below set n k) m ≡ unwrap_or (member_below set n k) m'
unfolding member_below
below-some m m' set zero k h = absurd (omega (arith, count_none set))
below-some m m' set (suc n) k h = go (set n) (rw (count_more set n) at h) (ℕ_discrete (count_below set n) k) (λ l. below-some m m' set n k l)
  where
    go : (b : Bool) → k < count_below set n + cond b 1 0 → Dec (count_below set n ≡ k)
        → (k < count_below set n → unwrap_or (member_below set n k) m ≡ unwrap_or (member_below set n k) m')
        → unwrap_or (cond (b && eqb (count_below set n) k) (Some n) (member_below set n k)) m ≡ unwrap_or (cond (b && eqb (count_below set n) k) (Some n) (member_below set n k)) m'
    go true h (yes e) f = rw (eq-eqb (count_below set n) k e) refl
    go true h (no e) f = rw (ne_eqb (count_below set n) k e) (f (omega arith))
    go false h d f = f (omega arith)

-- a number is below n, or told for none
pub below_le : (set : ℕ → Bool) (m n k : ℕ) → n ≤ m → unwrap_or (member_below set n k) m ≤ m
unfolding member_below
below_le set m zero k h = omega arith
below_le set m (suc n) k h = go (set n && eqb (count_below set n) k) (below_le set m n k (omega arith))
  where
    go : (b : Bool) → unwrap_or (member_below set n k) m ≤ m → unwrap_or (cond b (Some n) (member_below set n k)) m ≤ m
    go true l = omega arith
    go false l = l

pub place_le : (s p : ℕ) → place_in s p ≤ 8
unfolding place_in
place_le s p = below_le (mem s) 8 8 _ (omega arith)

-- ---- a set in two parts

-- a position below the count of the lower part is there
pub below-low : (set : ℕ → Bool) (c n k : ℕ) → k < count_below set c → member_below set (c + n) k ≡ member_below set c k
unfolding member_below
below-low set c zero k h = rw (add-zero c) refl
below-low set c (suc n) k h =
    let l = count-split set c n in
    rw (add-suc c n, ne_eqb (count_below set (c + n)) k (λ e. omega arith), and-false (set (c + n))) (below-low set c n k h)

-- who has number a in the upper part
abbrev pub above : ℕ → Option ℕ → Option ℕ
above c None = None
above c (Some a) = Some (c + a)

-- any other is in the upper part, counted from its own start
pub below-high : (set : ℕ → Bool) (c n k : ℕ) → count_below set c ≤ k → member_below set (c + n) k ≡ above c (member_below (λ i. set (c + i)) n (k - count_below set c))
unfolding member_below
below-high set c zero k h = rw (add-zero c) (below_none set c k h)
below-high set c (suc n) k h = rw (add-suc c n, same_test, below-high set c n k h) (go (set (c + n) && eqb (count_below (λ i. set (c + i)) n) (k - count_below set c)))
  where
    same_test : eqb (count_below set (c + n)) k ≡ eqb (count_below (λ i. set (c + i)) n) (k - count_below set c)
    same_test = by (ℕ_discrete (count_below set (c + n)) k) (count-split set c n)
      where
        by : Dec (count_below set (c + n) ≡ k) → count_below set (c + n) ≡ count_below set c + count_below (λ i. set (c + i)) n
            → eqb (count_below set (c + n)) k ≡ eqb (count_below (λ i. set (c + i)) n) (k - count_below set c)
        by (yes e) l = rw (eq-eqb (count_below set (c + n)) k e, eq-eqb (count_below (λ i. set (c + i)) n) (k - count_below set c) (omega arith)) refl
        by (no e) l = rw (ne_eqb (count_below set (c + n)) k e, ne_eqb (count_below (λ i. set (c + i)) n) (k - count_below set c) (λ q. e (omega arith))) refl

    go : (b : Bool) → cond b (Some (c + n)) (above c (member_below (λ i. set (c + i)) n (k - count_below set c))) ≡ above c (cond b (Some n) (member_below (λ i. set (c + i)) n (k - count_below set c)))
    go true = refl
    go false = refl

-- ---- sets that agree on the members

pub count_same : (s u : ℕ → Bool) (n : ℕ) → ((i : ℕ) → i < n → s i ≡ u i) → count_below s n ≡ count_below u n
unfolding count_below
count_same s u n e = sum_same (λ i. cond (s i) 1 0) (λ i. cond (u i) 1 0) n (λ i h. rw (e i h) refl)

pub below-same : (s u : ℕ → Bool) (n k : ℕ) → ((i : ℕ) → i < n → s i ≡ u i) → member_below s n k ≡ member_below u n k
unfolding member_below
below-same s u zero k e = refl
below-same s u (suc n) k e =
    rw (e n (omega arith), count_same s u n (λ i h. e i (omega arith)), below-same s u n k (λ i h. e i (omega arith))) refl
