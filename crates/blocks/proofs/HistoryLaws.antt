-- Laws of histories.
use Rattle.std.proofs.Common.{◌≡◌, refl, sym, ap, ap₂, ◌∙◌, Bool, true, false, cond, ◌&&◌, ◌||◌, List, ℕ, zero, suc, ◌-◌, ◌<◌, ◌≤◌, arith, eqb, leb, le-leb, eq-eqb, ne_eqb}
use Rattle.base.proofs.Words.{or-false, and_comm, dec_lt, ℕ_discrete, lt-leb}
use Rattle.base.specs.Folds.{fold_to, any_to}
use Rattle.base.proofs.FoldLaws.{fold_same}
use Rattle.base.proofs.Ranges.{fold_none, fold_next, any_none, any_next}
use Rattle.base.proofs.TestLaws.{any_same}
use Rattle.base.specs.Sets.{contains, union, intersection}
use Rattle.base.proofs.UnionLaws.{in_none, in_union, in_intersection, intersection_le}
use Rattle.store.specs.Table.{held_set, held_at, previous_at}
use Rattle.store.proofs.TableLaws.{held_in}
use Rattle.store.proofs.MarkLaws.{OnlyMarks, held-set-marked, previous-marked}
use Rattle.blocks.specs.History.{named_by, named, below, reached, in_history}

-- nobody's certificates name anybody
named_none : (t : List ℕ) (r n : ℕ) → fold_to (named_by t 0 r) n 0 ≡ 0
unfolding named_by
named_none t r zero = fold_none (named_by t 0 r) 0
named_none t r (suc n) = rw (fold_next (named_by t 0 r) n 0, in_none n) (named_none t r n)

-- the empty set reaches nothing
pub below_none : (t : List ℕ) (r : ℕ) → below t 0 r ≡ 0
unfolding below named
below_none t r = let l = intersection_le 0 (held_set t (r - 1)) in rw (named_none t r 16) (omega arith)

in_named : (t : List ℕ) (s r a n : ℕ) → contains (fold_to (named_by t s r) n 0) a ≡ any_to (λ i. contains s i && contains (previous_at t i r) a) n
unfolding named_by
in_named t s r a zero = rw (fold_none (named_by t s r) 0, any_none (λ i. contains s i && contains (previous_at t i r) a)) (in_none a)
in_named t s r a (suc n) =
    rw (fold_next (named_by t s r) n 0, any_next (λ i. contains s i && contains (previous_at t i r) a) n) (go (contains s n) (in_named t s r a n))
  where
    go : (b : Bool) → contains (fold_to (named_by t s r) n 0) a ≡ any_to (λ i. contains s i && contains (previous_at t i r) a) n
        → contains (cond b (union (fold_to (named_by t s r) n 0) (previous_at t n r)) (fold_to (named_by t s r) n 0)) a
        ≡ (any_to (λ i. contains s i && contains (previous_at t i r) a) n || (b && contains (previous_at t n r) a))
    go true e = in_union (fold_to (named_by t s r) n 0) (previous_at t n r) a ∙ ap (λ (z : Bool). z || contains (previous_at t n r) a) e
    go false e = e ∙ rw (or-false (any_to (λ i. contains s i && contains (previous_at t i r) a) n)) refl

-- of the round below, the held certificates that those of s name
pub in_below : (t : List ℕ) (s r a : ℕ) → contains (below t s (suc r)) a ≡ (held_at t a r && any_to (λ i. contains s i && contains (previous_at t i (suc r)) a) 16)
unfolding below named
in_below t s r a =
    let e : suc r - 1 ≡ r = omega arith in
    rw (e, in_intersection (fold_to (named_by t s (suc r)) 16 0) (held_set t r) a, in_named t s (suc r) a 16, held_in t a r)
    (and_comm (any_to (λ i. contains s i && contains (previous_at t i (suc r)) a) 16) (contains (held_set t r) a))

-- ---- a history, round by round

module _ (t : List ℕ) (r s a : ℕ) where
  -- of its own round it has the set
  pub history-here : in_history t r s a r ≡ contains s a
  unfolding in_history reached
  history-here = let e : r - r ≡ 0 = omega arith in rw (e, le-leb r r (omega arith)) refl

  -- of a round below, the held certificates that those of the round above name
  pub history-down : (q : ℕ) → q < r → in_history t r s a q ≡ (held_at t a q && any_to (λ i. in_history t r s i (suc q) && contains (previous_at t i (suc q)) a) 16)
  unfolding in_history reached
  history-down q h =
      let e : r - q ≡ suc (r - suc q) = omega arith in
      let up : r - (r - suc q) ≡ suc q = omega arith in
      rw (e, le-leb q r (omega arith), le-leb (suc q) r (omega arith), up) (in_below t (reached t r s (r - suc q)) q a)

  -- of a round above, nothing
  pub history-above : (q : ℕ) → r < q → in_history t r s a q ≡ false
  unfolding in_history
  history-above q h = rw (lt-leb q r h) refl

  -- a set with its part of the round above reaches its part of the round below
  pub history-below : (u q : ℕ) → q < r → ((i : ℕ) → contains u i ≡ in_history t r s i (suc q)) → contains (below t u (suc q)) a ≡ in_history t r s a q
  history-below u q h e =
      in_below t u q a
      ∙ ap (λ (z : Bool). held_at t a q && z) (any_same (λ i. contains u i && contains (previous_at t i (suc q)) a) _ 16 λ i _. ap (λ (z : Bool). z && contains (previous_at t i (suc q)) a) (e i))
      ∙ sym (history-down q h)

-- what is reached one round below reaches the rest
reached-rest : (t : List ℕ) (r s d : ℕ) → reached t r (below t s (suc r)) d ≡ reached t (suc r) s (suc d)
unfolding reached
reached-rest t r s zero = let e : suc r - 0 ≡ suc r = omega arith in rw e refl
reached-rest t r s (suc d) = let e : suc r - suc d ≡ r - d = omega arith in rw e (ap (λ (z : ℕ). below t z (r - d)) (reached-rest t r s d))

history-rest : (t : List ℕ) (r s a q : ℕ) → q ≤ r → in_history t (suc r) s a q ≡ in_history t r (below t s (suc r)) a q
unfolding in_history
history-rest t r s a q h =
    let e : suc r - q ≡ suc (r - q) = omega arith in
    rw (e, le-leb q r h, le-leb q (suc r) (omega arith), reached-rest t r s (r - q)) refl

-- a history is its set and the history of what the set reaches one round below
pub history-split : (t : List ℕ) (r s a q : ℕ) → in_history t (suc r) s a q ≡ ((eqb q (suc r) && contains s a) || in_history t r (below t s (suc r)) a q)
history-split t r s a q = by (ℕ_discrete q (suc r)) (dec_lt (suc r) q)
  where
    by : Dec (q ≡ suc r) → Dec (suc r < q) → in_history t (suc r) s a q ≡ ((eqb q (suc r) && contains s a) || in_history t r (below t s (suc r)) a q)
    by (yes e) d =
        rw (e, history-here t (suc r) s a, eq-eqb (suc r) (suc r) refl, history-above t r (below t s (suc r)) a (suc r) (omega arith), or-false (contains s a)) refl
    by (no n) (yes h) = rw (ne_eqb q (suc r) n, history-above t (suc r) s a q h, history-above t r (below t s (suc r)) a q (omega arith)) refl
    by (no n) (no h) = rw (ne_eqb q (suc r) n) (history-rest t r s a q (omega arith))

-- ---- marks and block rounds do not matter

module _ {n : ℕ} {t u : List ℕ} (o : OnlyMarks n t u) where
  pub below-marked : (s r : ℕ) → below u s r ≡ below t s r
  unfolding below named named_by
  below-marked s r =
      ap₂ intersection (fold_same (named_by u s r) (named_by t s r) 16 0 λ a v _. ap (λ (p : ℕ). cond (contains s a) (union v p) v) (previous-marked o a r))
      (held-set-marked o (r - 1))

  reached-marked : (r s d : ℕ) → reached u r s d ≡ reached t r s d
  unfolding reached
  reached-marked r s zero = refl
  reached-marked r s (suc d) = below-marked (reached u r s d) (r - d) ∙ ap (λ (z : ℕ). below t z (r - d)) (reached-marked r s d)

  pub history-marked : (r s a q : ℕ) → in_history u r s a q ≡ in_history t r s a q
  unfolding in_history
  history-marked r s a q = ap (λ (z : ℕ). leb q r && contains z a) (reached-marked r s (r - q))
