-- Laws of counted places: a place is marked with one block only, so all blocks together have at most every place.
use Rattle.std.proofs.Common.{◌≡◌, refl, ◌∙◌, sym, Bool, true, false, cond, List, ℕ, zero, suc, ◌+◌, ◌*◌, ◌/◌, ◌%◌, ◌<◌, ◌≤◌, arith, eqb, leb, eq-eqb, ne_eqb, le-leb}
use Rattle.base.proofs.Words.{ℕ_discrete, dec_lt, lt-leb}
use Rattle.base.specs.Folds.{sum_to}
use Rattle.base.proofs.Ranges.{sum_none, sum_next}
use Rattle.base.proofs.SumLaws.{sum_same, sum_add, sum_le, sum_up, sum_turned}
use Rattle.store.specs.Table.{mark_at}
use Rattle.chain_committees.proofs.StartLaws.{start_le}
use Rattle.listing.specs.Counts.{in_block, in_first, block_count, chain_count, row_count}

-- so many places from p on, after those below it
pub sum_join : (f : ℕ → ℕ) (p n : ℕ) → sum_to f (p + n) ≡ sum_to f p + sum_to (λ i. f (p + i)) n
sum_join f p zero = let e : p + 0 ≡ p = omega arith in rw (e, sum_none (λ i. f (p + i))) (omega arith)
sum_join f p (suc n) = let e : p + suc n ≡ suc (p + n) = omega arith in rw (e, sum_next f (p + n), sum_next (λ i. f (p + i)) n, sum_join f p n) (omega arith)

-- the row of round r after the rows below it
pub row_next : (t : List ℕ) (k r q : ℕ) → r * 16 + 16 ≤ q → sum_to (in_block t k) (r * 16) + row_count t k r ≤ sum_to (in_block t k) q
row_next t k r q h = let e = sum_join (in_block t k) (r * 16) 16 in let l = sum_up (in_block t k) (r * 16 + 16) q h in omega arith

-- from any member round
pub row_turned : (t : List ℕ) (k a r : ℕ) → sum_to (λ i. in_block t k (r * 16 + (a + i) % 16)) 16 ≡ row_count t k r
row_turned t k a r = sum_turned (λ i. in_block t k (r * 16 + i)) a

-- the places of one block more
first_next : (t : List ℕ) (k p : ℕ) → in_first t k p + in_block t (k + 1) p ≡ in_first t (k + 1) p
unfolding in_first in_block
first_next t k p = go (mark_at t (p % 16) (p / 16))
  where
    go : (m : ℕ) → cond (leb m k) 1 0 + cond (eqb m (k + 1)) 1 0 ≡ cond (leb m (k + 1)) 1 0
    go m = by (dec_lt k m) (ℕ_discrete m (k + 1))
      where
        by : Dec (k < m) → Dec (m ≡ k + 1) → cond (leb m k) 1 0 + cond (eqb m (k + 1)) 1 0 ≡ cond (leb m (k + 1)) 1 0
        by (no l) d = rw (le-leb m k (omega arith), ne_eqb m (k + 1) (λ e. omega arith), le-leb m (k + 1) (omega arith)) refl
        by (yes l) (yes e) = rw (lt-leb m k l, eq-eqb m (k + 1) e, le-leb m (k + 1) (omega arith)) refl
        by (yes l) (no e) = rw (lt-leb m k l, ne_eqb m (k + 1) e, lt-leb m (k + 1) (omega arith)) refl

pub count_more : (n : ℕ) (t : List ℕ) (k : ℕ) → chain_count n t k + block_count n t (k + 1) ≡ chain_count n t (k + 1)
count_more n t k =
    sym (sum_add (in_first t k) (in_block t (k + 1)) (n * 16 + 16))
    ∙ sum_same (λ p. in_first t k p + in_block t (k + 1) p) (in_first t (k + 1)) (n * 16 + 16) (λ p _. first_next t k p)

-- at most every place
first-most : (t : List ℕ) (k p : ℕ) → in_first t k p ≤ 1
unfolding in_first
first-most t k p = go (leb (mark_at t (p % 16) (p / 16)) k)
  where
    go : (b : Bool) → cond b 1 0 ≤ 1
    go true = omega arith
    go false = omega arith

pub count_all : (n : ℕ) (t : List ℕ) (k : ℕ) → chain_count n t k ≤ n * 16 + 16
count_all n t k = let h = sum_le (in_first t k) 1 (n * 16 + 16) (λ p _. first-most t k p) in omega arith

-- where the lines of the next block begin, and that there is room for them
pub ruleset block_room = (start_le, count_more, count_all)
