-- Laws of what is seen: a history changes nothing from where all that it reaches is seen.
use Rattle.std.proofs.Common.{◌≡◌, refl, sym, ◌∙◌, Bool, true, false, cond, ◌&&◌, ◌||◌, List, ◌≢◌, ◌⊎◌, inl, inr, ℕ, zero, suc, ◌-◌, ◌<◌, ◌≤◌, arith, eqb, length, get_or, set, replicate, length-set, get_or-set_same, get_or-set_other, eq-eqb, ne_eqb, eqb-true}
use Rattle.base.proofs.Words.{or-true, or-false, false≢true, ℕ_discrete, length-replicate}
use Rattle.base.proofs.Bools.{both}
use Rattle.base.specs.Folds.{fold_to, any_to}
use Rattle.base.proofs.Ranges.{fold_none, fold_next}
use Rattle.base.proofs.TestLaws.{any_true, true_any}
use Rattle.base.specs.Sets.{contains, union, intersection}
use Rattle.base.proofs.SetLaws.{in_member}
use Rattle.base.proofs.UnionLaws.{in_none, in_union, in_intersection}
use Rattle.store.specs.Table.{Row, mark_at, held_at, previous_at}
use Rattle.store.specs.Writes.{set_mark, set_block}
use Rattle.store.proofs.MarkLaws.{only-block, mark-block}
use Rattle.blocks.specs.History.{below}
use Rattle.blocks.proofs.HistoryLaws.{below_none, below-marked, in_below}
use Rattle.blocks.specs.Blocks.{mark_place, mark_row, mark_history}
use Rattle.blocks.proofs.MarkLaws.{new_mark, only_row, row-mark}
use Rattle.blocks.specs.Seen.{Inside, Seen}

-- who is reached is reached by one, and so by any set with that one
below_by : (t : List ℕ) (s r a : ℕ) → contains (below t s (suc r)) a ≡ true
    → (i : ℕ) × (contains s i ≡ true) × ((u : ℕ) → contains u i ≡ true → contains (below t u (suc r)) a ≡ true)
below_by t s r a h =
    let z = both (held_at t a r) (any_to (λ i. contains s i && contains (previous_at t i (suc r)) a) 16) (sym (in_below t s r a) ∙ h) in
    let x = any_true (λ i. contains s i && contains (previous_at t i (suc r)) a) 16 z.1 in
    let y = both (contains s x.0) (contains (previous_at t x.0 (suc r)) a) x.2 in
    (x.0, y.0, λ u k. in_below t u r a ∙ rw z.0 (true_any (λ i. contains u i && contains (previous_at t i (suc r)) a) 16 x.0 x.1 (rw (k, y.1) refl)))

-- ---- one set more

-- v, and the set s of round r
unfoldable pub see : List ℕ → ℕ → ℕ → List ℕ
see v r s = set v r (union (get_or v r 0) s)

pub see_is : (v : List ℕ) (r s x : ℕ) → x ≡ union (get_or v r 0) s → set v r x ≡ see v r s
unfolding see
see_is v r s x e = rw e refl

length-see : (v : List ℕ) (r s : ℕ) → length (see v r s) ≡ length v
unfolding see
length-see v r s = length-set v r (union (get_or v r 0) s)

module _ (v : List ℕ) (r s : ℕ) (h : r < length v) (q a : ℕ) where
  in_see : contains (get_or (see v r s) q 0) a ≡ (contains (get_or v q 0) a || (eqb q r && contains s a))
  unfolding see
  in_see = by (ℕ_discrete q r)
    where
      by : Dec (q ≡ r) → contains (get_or (set v r (union (get_or v r 0) s)) q 0) a ≡ (contains (get_or v q 0) a || (eqb q r && contains s a))
      by (yes e) = rw (e, get_or-set_same v r (union (get_or v r 0) s) 0 h, eq-eqb r r refl) (in_union (get_or v r 0) s a)
      by (no n) = rw (get_or-set_other v r q (union (get_or v r 0) s) 0 n, ne_eqb q r n) (sym (or-false (contains (get_or v q 0) a)))

  see-old : contains (get_or v q 0) a ≡ true → contains (get_or (see v r s) q 0) a ≡ true
  see-old e = in_see ∙ rw e refl

  see-new : q ≡ r → contains s a ≡ true → contains (get_or (see v r s) q 0) a ≡ true
  see-new e i = in_see ∙ rw (eq-eqb q r e, i) (or-true (contains (get_or v q 0) a))

  see-either : contains (get_or (see v r s) q 0) a ≡ true → (contains (get_or v q 0) a ≡ true) ⊎ ((q ≡ r) × (contains s a ≡ true))
  see-either e = go (contains (get_or v q 0) a) refl (sym in_see ∙ e)
    where
      go : (x : Bool) → contains (get_or v q 0) a ≡ x → (x || (eqb q r && contains s a)) ≡ true → (contains (get_or v q 0) a ≡ true) ⊎ ((q ≡ r) × (contains s a ≡ true))
      go true y _ = inl y
      go false _ f = let z = both (eqb q r) (contains s a) f in inr (eqb-true q r z.0, z.1)

-- ---- where a walk ends

module _ (b : ℕ) {t v : List ℕ} (k : Seen t v v) where
  -- a row keeps its marks, if all of s is seen
  row_stays : (r s : ℕ) → Inside s (get_or v r 0) → (n : ℕ) → fold_to (mark_place b s r) n t ≡ t
  unfolding mark_place
  row_stays r s f zero = fold_none (mark_place b s r) t
  row_stays r s f (suc n) = rw (fold_next (mark_place b s r) n t, row_stays r s f n) (go (contains s n) refl)
    where
      go : (i : Bool) → contains s n ≡ i → cond i (cond (eqb (mark_at t n r) 0) (set_mark t n r b) t) t ≡ t
      go true e = rw (ne_eqb (mark_at t n r) 0 (k.marked r n (f n e))) refl
      go false e = refl

  -- and so do the rows below
  history-stays : (r s : ℕ) → (0 < r → Inside s (get_or v r 0)) → mark_history b r s t ≡ t
  unfolding mark_history mark_row
  history-stays zero s f = refl
  history-stays (suc r) s f = rw (row_stays (suc r) s (f (omega arith)) 16) (history-stays r (below t s (suc r)) rest)
    where
      rest : 0 < r → Inside (below t s (suc r)) (get_or v r 0)
      rest h a e = let x = below_by t s r a e in k.closed r h a (x.2 (get_or v (suc r) 0) (f (omega arith) x.0 x.1))

-- at round 0, or where all of s is seen, nothing is left to do
pub seen_end : (b r s : ℕ) (t v : List ℕ) → r ≤ 1024 → Seen t v (see v r s) → (0 < r → intersection s (get_or v r 0) ≡ s) → (mark_history b r s t ≡ t) × Seen t v v
seen_end b r s t v l k f = (history-stays b all r s inside, all)
  where
    inside : 0 < r → Inside s (get_or v r 0)
    inside h a e = (both (contains s a) (contains (get_or v r 0) a) (sym (in_intersection s (get_or v r 0) a) ∙ rw (f h) e)).1

    old : (q a : ℕ) → 0 < q → (contains (get_or v q 0) a ≡ true) ⊎ ((q ≡ r) × (contains s a ≡ true)) → contains (get_or v q 0) a ≡ true
    old q a h (inl y) = y
    old q a h (inr y) = let e = y.0 in rw e (inside (omega arith) a y.1)

    all : Seen t v v
    all =
        record {
          long = k.long;
          marked = k.marked;
          closed = λ q h a e. old q a h (see-either v r s (omega (arith, k.long)) q a (k.closed q h a e));
        }

-- ---- how a walk goes

zeros : (n q : ℕ) → get_or {A = ℕ} (replicate n 0) q 0 ≡ 0
zeros zero q = refl
zeros (suc n) zero = refl
zeros (suc n) (suc q) = zeros n q

pub seen_none : (n : ℕ) (t : List ℕ) → 1024 < n → Seen t (replicate n 0) (replicate n 0)
seen_none n t h =
    record {
      long = omega (arith, length-replicate {A = ℕ} n 0);
      marked = λ q a e. absurd (false≢true (sym (in_none a) ∙ (rw (zeros n q) at e)));
      closed = λ q _ a e. absurd (false≢true (sym (in_none a) ∙ (rw (zeros n (suc q), below_none t (suc q)) at e)));
    }

pub seen_begin : (r s : ℕ) (t v : List ℕ) → r ≤ 1024 → Seen t v v → Seen t v (see v r s)
seen_begin r s t v l k =
    record { long = k.long; marked = k.marked; closed = λ q h a e. see-old v r s (omega (arith, k.long)) q a (k.closed q h a e) }

-- a block's round does not matter
pub seen_block : (b r : ℕ) (t u v : List ℕ) → u ≡ set_block t b r → Seen t v v → Seen u v v
seen_block b r t u v h k =
    let o = only-block b t b r (omega arith) in
    rw h
    record {
      long = k.long;
      marked = λ q a e. rw (mark-block t b r a q (in_member (get_or v q 0) a e)) (k.marked q a e);
      closed = λ q h a e. k.closed q h a (rw (below-marked o (get_or v (suc q) 0) (suc q)) at e);
    }

-- a certificate is marked, if it was or is put into block b
new-mark : (b m : ℕ) (h : Bool) → 0 < b → (m ≡ 0 → h ≡ true) → new_mark b h m ≢ 0
new-mark b m h p f = by (ℕ_discrete m 0)
  where
    by : Dec (m ≡ 0) → new_mark b h m ≢ 0
    by (yes e) = rw (eq-eqb m 0 e, f e) (λ z. omega arith)
    by (no n) = rw (ne_eqb m 0 n) n

module _ (b r s : ℕ) (t v : List ℕ) (p : 0 < b) (l : r < 1024) (row : Row t (suc r)) (k : Seen t v (see v (suc r) s)) where
  abbrev w : List ℕ
  w = see v (suc r) s

  far : suc r < length v
  far = omega (arith, k.long)

  put : (q a : ℕ) → contains (get_or w q 0) a ≡ true → mark_at t a q ≡ 0 → (eqb q (suc r) && contains s a) ≡ true
  put q a e z = go (see-either v (suc r) s far q a e)
    where
      go : (contains (get_or v q 0) a ≡ true) ⊎ ((q ≡ suc r) × (contains s a ≡ true)) → (eqb q (suc r) && contains s a) ≡ true
      go (inl y) = absurd (k.marked q a y z)
      go (inr y) = rw (eq-eqb q (suc r) y.0, y.1) refl

  reaches : (q : ℕ) → 0 < q → Inside (below t (get_or w (suc q) 0) (suc q)) (get_or (see w r (below t s (suc r))) q 0)
  reaches q h a e = let x = below_by t (get_or w (suc q) 0) q a e in go x.0 x.2 (see-either v (suc r) s far (suc q) x.0 x.1)
    where
      long : r < length w
      long = omega (arith, far, length-see v (suc r) s)

      go : (i : ℕ) → ((u : ℕ) → contains u i ≡ true → contains (below t u (suc q)) a ≡ true) → (contains (get_or v (suc q) 0) i ≡ true) ⊎ ((suc q ≡ suc r) × (contains s i ≡ true))
          → contains (get_or (see w r (below t s (suc r))) q 0) a ≡ true
      go i f (inl y) = see-old w r (below t s (suc r)) long q a (k.closed q h a (f (get_or v (suc q) 0) y))
      go i f (inr y) = let e = y.0 in see-new w r (below t s (suc r)) long q a (omega arith) (rw (← e) (f s y.1))

  seen-down : Seen (mark_row b s (suc r) t) w (see w r (below t s (suc r)))
  seen-down =
      let o = only_row (suc r) b s (suc r) t (omega arith) in
      record {
        long = omega (arith, k.long, length-see v (suc r) s);
        marked = λ q a e. rw (row-mark b s (suc r) t row a q (in_member (get_or w q 0) a e)) (new-mark b (mark_at t a q) (eqb q (suc r) && contains s a) p (put q a e));
        closed = λ q h a e. reaches q h a (rw (below-marked o (get_or w (suc q) 0) (suc q)) at e);
      }

-- one round down
pub seen_step : (b r s : ℕ) (t v : List ℕ) → 0 < b → 0 < r → r ≤ 1024 → Row t r → Seen t v (see v r s)
    → Seen (mark_row b s r t) (see v r s) (see (see v r s) (r - 1) (below t s r))
seen_step b zero s t v p z l row k = absurd (omega arith)
seen_step b (suc r) s t v p z l row k = let e : suc r - 1 ≡ r = omega arith in rw e (seen-down b r s t v p (omega arith) row k)
