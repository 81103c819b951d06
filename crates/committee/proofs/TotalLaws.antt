-- Laws of total weights: what a change, a fold and marked places raise them by.
use Rattle.std.proofs.Common.{◌≡◌, refl, sym, Bool, true, false, cond, List, ℕ, zero, suc, ◌+◌, ◌*◌, ◌≤◌, ◌<◌, arith, add-one, set, length, eqb, ltb, eq-eqb}
use Rattle.base.proofs.Words.{ℕ_discrete, dec_lt, set_out, eqb-zero-suc, eqb-suc-suc}
use Rattle.base.specs.Folds.{fold_to, sum_to}
use Rattle.base.proofs.Ranges.{fold_none, fold_next, sum_next}
use Rattle.base.proofs.SumLaws.{sum_at, sum_same, sum_le, sum_add, sum_mono, sum_one, sum_to_none, sum_swap}
use Rattle.terms.specs.declared.Transaction.{Transaction}
use Rattle.terms.specs.declared.Transaction.TheVariants.{Bond, Unbond, Entry}
use Rattle.terms.specs.Transactions.{amount_of}
use Rattle.terms.specs.declared.sheet.Weight.{Weight}
use Rattle.terms.proofs.SheetLaws.{weight_same, weight_other}
use Rattle.terms.specs.Ranges.{weight, weight_in}
use Rattle.committee.specs.Changes.{change}
use Rattle.committee.specs.Totals.{total_in}

-- ---- changes

-- f raises no total by more than c
unfoldable pub Raises : (List Weight → List Weight) → ℕ → Type 0
Raises f c = (w : List Weight) → total_in (f w) ≤ total_in w + c

set_at : (w : List Weight) (m v i b : ℕ) → (i ≡ m → v ≤ b) → weight_in w i ≤ b → weight_in (set w m (weight v)) i ≤ b
set_at w m v i b h l = by (ℕ_discrete i m) (dec_lt m (length w))
  where
    by : Dec (i ≡ m) → Dec (m < length w) → weight_in (set w m (weight v)) i ≤ b
    by (yes e) (yes lt) = rw (e, weight_same w m v lt) (h e)
    by (yes e) (no n) = rw (set_out w m (weight v) (omega arith)) l
    by (no n) d = rw (weight_other w m i v n) l

bond_raises : (m a : ℕ) → Raises (λ w. set w m (weight (weight_in w m + a))) a
unfolding Raises
bond_raises m a w =
    let o = sum_one a m 16 in
    let s = sum_add (weight_in w) (λ i. cond (eqb m i) a 0) 16 in
    let l = sum_mono (weight_in (set w m (weight (weight_in w m + a)))) (λ i. weight_in w i + cond (eqb m i) a 0) 16
    (λ i h. set_at w m (weight_in w m + a) i (weight_in w i + cond (eqb m i) a 0) (λ e. rw (eq-eqb m i (sym e), e) (omega arith)) (omega arith)) in
    omega arith

pub still_raises : (c : ℕ) → Raises (λ w. w) c
unfolding Raises
still_raises c w = omega arith

unbond_raises : (m c : ℕ) → Raises (λ w. set w m (weight 0)) c
unfolding Raises
unbond_raises m c w =
    let l = sum_mono (weight_in (set w m (weight 0))) (weight_in w) 16 (λ i h. set_at w m 0 i (weight_in w i) (λ e. omega arith) (omega arith)) in
    omega arith

pub choice_raises : (b : Bool) (f g : List Weight → List Weight) (c : ℕ) → Raises f c → Raises g c → Raises (λ w. cond b (f w) (g w)) c
choice_raises true f g c h k = h
choice_raises false f g c h k = k

-- a transaction raises the total by its amount at most
pub change_raises : (x : Transaction) → Raises (change x) (amount_of x)
change_raises (Bond m a) = choice_raises (ltb m.0 16) (λ w. set w m.0 (weight (weight_in w m.0 + a))) (λ w. w) a (bond_raises m.0 a) (still_raises a)
change_raises (Unbond m) = choice_raises (ltb m.0 16) (λ w. set w m.0 (weight 0)) (λ w. w) 0 (unbond_raises m.0 0) (still_raises 0)
change_raises (Entry n) = still_raises 0

-- a weight is a part of the total
pub weight_le : (w : List Weight) (i : ℕ) → i < 16 → weight_in w i ≤ total_in w
weight_le w i h = sum_at (weight_in w) 16 i h

-- ---- raises

pub raised : (f : List Weight → List Weight) (c : ℕ) → Raises f c → (w : List Weight) → total_in (f w) ≤ total_in w + c
unfolding Raises
raised f c h w = h w

pub raises_more : (f : List Weight → List Weight) (c d : ℕ) → c ≤ d → Raises f c → Raises f d
unfolding Raises
raises_more f c d l h w = let q = h w in omega arith

-- functions that agree raise alike
pub raises_same : (f g : List Weight → List Weight) (c : ℕ) → ((w : List Weight) → f w ≡ g w) → Raises g c → Raises f c
unfolding Raises
raises_same f g c e h w = rw (e w) (h w)

-- a fold raises it by the sum of what its turns do
pub fold_raises : (f : ℕ → List Weight → List Weight) (c : ℕ → ℕ) (n : ℕ) → ((i : ℕ) → i < n → Raises (f i) (c i)) → Raises (fold_to f n) (sum_to c n)
unfolding Raises
fold_raises f c zero h w = rw (fold_none f w) (omega arith)
fold_raises f c (suc n) h w =
    let e = fold_next f n w in
    let s = sum_next c n in
    let p = fold_raises f c n (λ i l. h i (omega arith)) w in
    let q = h n (omega arith) (fold_to f n w) in
    rw e (omega arith)

-- turns that raise it by c each
pub fold_raises_each : (f : ℕ → List Weight → List Weight) (c n : ℕ) → ((i : ℕ) → i < n → Raises (f i) c) → Raises (fold_to f n) (n * c)
fold_raises_each f c n h = raises_more (fold_to f n) (sum_to (λ i. c) n) (n * c) (sum_le (λ i. c) c n (λ i l. omega arith)) (fold_raises f (λ i. c) n h)

-- a place is in one block: over all blocks, rows and members it counts once
pub marks-once : (mark : ℕ → ℕ → ℕ) (c blocks n : ℕ) → sum_to (λ k. sum_to (λ r. sum_to (λ m. cond (eqb (mark m r) (k + 1)) c 0) 16) n) blocks ≤ n * (16 * c)
marks-once mark c blocks n =
    rw (sum_swap (λ k r. sum_to (λ m. cond (eqb (mark m r) (k + 1)) c 0) 16) blocks n)
    (sum_le (λ r. sum_to (λ k. sum_to (λ m. cond (eqb (mark m r) (k + 1)) c 0) 16) blocks) (16 * c) n
    (λ r l. rw (sum_swap (λ k m. cond (eqb (mark m r) (k + 1)) c 0) blocks 16)
    (sum_le (λ m. sum_to (λ k. cond (eqb (mark m r) (k + 1)) c 0) blocks) c 16 (λ m h. at_once (mark m r) blocks))))
  where
    at_once : (b n : ℕ) → sum_to (λ k. cond (eqb b (k + 1)) c 0) n ≤ c
    at_once zero n = rw (sum_same (λ k. cond (eqb 0 (k + 1)) c 0) (λ k. 0) n (λ k h. rw (add-one k, eqb-zero-suc k) refl), sum_to_none n) (omega arith)
    at_once (suc b) n = rw (sum_same (λ k. cond (eqb (suc b) (k + 1)) c 0) (λ k. cond (eqb b k) c 0) n (λ k h. rw (add-one k, eqb-suc-suc b k) refl)) (sum_one c b n)
