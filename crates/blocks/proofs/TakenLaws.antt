-- Which leaders a commit takes: those that are in the history of the latest one taken.
use Rattle.std.proofs.Common.{◌≡◌, refl, sym, ap, ◌∙◌, Bool, true, false, cond, List, ℕ, zero, suc, ◌+◌, ◌-◌, ◌<◌, ◌≤◌, arith, add-one, get_or, set, length, length-set, get_or-set_same, get_or-set_other}
use Rattle.base.proofs.Words.{ℕ_discrete, dec_lt}
use Rattle.base.specs.Sets.{contains, only}
use Rattle.base.proofs.SetLaws.{in_member}
use Rattle.store.specs.Table.{held_at}
use Rattle.blocks.specs.History.{below}
use Rattle.blocks.specs.History.{in_history}
use Rattle.blocks.proofs.HistoryLaws.{history-here, history-below}
use Rattle.blocks.specs.Anchors.{take_set, take_row, take_from, taken_leaders}
use Rattle.blocks.proofs.AnchorLaws.{row_other, row_same, take-other, take_left}

module _ (t : List ℕ) where
  -- the leader of j, where that of q is the latest left above it
  abbrev chosen : List ℕ → List ℕ → ℕ → ℕ → ℕ
  chosen l k q j = cond (in_history t q (only (get_or k q 0)) (get_or l j 0) j) (get_or l j 0) 16

  -- in l the leader of p is the latest taken; s is what it reaches of the round above those that are left
  record Latest (m n s p : ℕ) (l : List ℕ) : Type 0 where
    above : m + n < p
    long : p < length l
    led : get_or l p 0 < 16
    gone : (i : ℕ) → m + n < i → i < p → 16 ≤ get_or l i 0
    reaches : (i : ℕ) → contains s i ≡ in_history t p (only (get_or l p 0)) i (suc (m + n))

  abbrev Chosen : ℕ → ℕ → Type 0
  Chosen m n =
      (s p : ℕ) (l : List ℕ) → Latest m n s p l → (j q : ℕ) → m < j → j ≤ m + n → j < q → q ≤ p → get_or (take_from t m n s l) q 0 < 16
      → ((i : ℕ) → j < i → i < q → 16 ≤ get_or (take_from t m n s l) i 0)
      → get_or (take_from t m n s l) j 0 ≡ chosen l (take_from t m n s l) q j

  module _ (m n : ℕ) (f : Chosen m n) (s p : ℕ) (l : List ℕ) (d : Latest m (suc n) s p l) where
    abbrev r : ℕ
    r = m + suc n

    abbrev u : ℕ
    u = below t s (r + 1)

    abbrev k : List ℕ
    k = take_row l r u

    abbrev left : List ℕ
    left = take_from t m n (take_set l r u) k

    abbrev p' : Bool → ℕ
    p' b = cond b r p

    reaches-r : (i : ℕ) → contains u i ≡ in_history t p (only (get_or l p 0)) i r
    reaches-r i = rw (add-one r) (history-below t p (only (get_or l p 0)) i s r d.above d.reaches)

    next : (b : Bool) → contains u (get_or l r 0) ≡ b → Latest m n (cond b (only (get_or l r 0)) u) (p' b) (cond b l (set l r 16))
    next true e =
        let z : suc (m + n) ≡ r = omega arith in
        record {
          above = omega arith;
          long = omega (arith, d.above, d.long);
          led = in_member u (get_or l r 0) e;
          gone = λ i a b. absurd (omega arith);
          reaches = λ i. rw z (sym (history-here t r (only (get_or l r 0)) i));
        }
    next false e =
        let z : suc (m + n) ≡ r = omega arith in
        let x : get_or (set l r 16) p 0 ≡ get_or l p 0 = get_or-set_other l r p 16 0 (omega (arith, d.above)) in
        record {
          above = omega (arith, d.above);
          long = omega (arith, d.long, length-set l r 16);
          led = rw x d.led;
          gone = λ i a b. gone i a b (ℕ_discrete i r);
          reaches = λ i. rw (z, x) (reaches-r i);
        }
      where
        gone : (i : ℕ) → m + n < i → i < p → Dec (i ≡ r) → 16 ≤ get_or (set l r 16) i 0
        gone i a b (yes x) = rw (x, get_or-set_same l r 16 0 (omega (arith, d.above, d.long))) (omega arith)
        gone i a b (no x) = rw (get_or-set_other l r i 16 0 x) (d.gone i (omega arith) b)

    -- the leader of r
    here : (q : ℕ) → r < q → q ≤ p → get_or left q 0 < 16 → get_or left r 0 ≡ chosen l left q r
    here q a b h = go (ℕ_discrete q p)
      where
        same : (j : ℕ) → r < j → get_or left j 0 ≡ get_or l j 0
        same j z = take-other t m n (take_set l r u) j k (λ _. omega arith) ∙ row_other l r u j (omega arith)

        go : Dec (q ≡ p) → get_or left r 0 ≡ chosen l left q r
        go (yes e) =
            rw (e, same p d.above) (take-other t m n (take_set l r u) r k (λ _. omega arith) ∙ row_same l r u (omega (arith, d.above, d.long))
            ∙ ap (λ (z : Bool). cond z (get_or l r 0) 16) (reaches-r (get_or l r 0)))
        go (no e) = absurd (omega (arith, d.gone q a (omega arith), same q a))

    chosen-next : (j q : ℕ) → m < j → j ≤ r → j < q → q ≤ p → get_or left q 0 < 16 → ((i : ℕ) → j < i → i < q → 16 ≤ get_or left i 0) → get_or left j 0 ≡ chosen l left q j
    unfolding take_set take_row
    chosen-next j q a b c e h g = go (ℕ_discrete j r)
      where
        low : (b : Bool) → contains u (get_or l r 0) ≡ b → j < r → q ≤ p' b
        low true x y = by (dec_lt r q)
          where
            stays : get_or left r 0 ≡ get_or l r 0
            stays = take-other t m n (take_set l r u) r k (λ _. omega arith) ∙ row_same l r u (omega (arith, d.above, d.long)) ∙ rw x refl

            by : Dec (r < q) → q ≤ r
            by (yes z) = absurd (omega (arith, g r y z, stays, in_member u (get_or l r 0) x))
            by (no z) = omega arith
        low false x y = e

        go : Dec (j ≡ r) → get_or left j 0 ≡ chosen l left q j
        go (yes x) = rw x (here q (omega arith) e h)
        go (no x) =
            f (take_set l r u) (p' (contains u (get_or l r 0))) k (next (contains u (get_or l r 0)) refl) j q a (omega arith) c (low (contains u (get_or l r 0)) refl (omega arith)) h g
            ∙ ap (λ (z : ℕ). cond (in_history t q (only (get_or left q 0)) z j) z 16) (row_other l r u j x)

  chosen-all : (m n : ℕ) → Chosen m n
  unfolding take_from
  chosen-all m zero s p l d j q a b c e h g = absurd (omega arith)
  chosen-all m (suc n) s p l d j q a b c e h g = chosen-next m n (chosen-all m n) s p l d j q a b c e h g

-- ---- what is left of the leaders

module _ (t : List ℕ) (m top : ℕ) (l : List ℕ) where
  -- leaders of rounds up to m, of top and above stay
  pub taken-other : m < top → (j : ℕ) → (m < j → top ≤ j) → get_or (taken_leaders t m top l) j 0 ≡ get_or l j 0
  unfolding taken_leaders
  taken-other h j f = take-other t m (top - 1 - m) (only (get_or l top 0)) j l (λ i. omega (arith, f i))

  module _ (below : m < top) (long : top < length l) where
    -- whoever is left was there, and its certificate is held
    pub taken-left : (j : ℕ) → get_or (taken_leaders t m top l) j 0 < 16
        → (get_or (taken_leaders t m top l) j 0 ≡ get_or l j 0) × (m < j → j < top → held_at t (get_or l j 0) j ≡ true)
    unfolding taken_leaders
    taken-left j h = let x = take_left t m (top - 1 - m) (only (get_or l top 0)) j l (omega arith) h in (x.0, λ a b. x.1 a (omega arith))

    -- a leader is taken if it is in the history of the latest one taken, and else struck out
    pub taken_at : get_or l top 0 < 16 → (j q : ℕ) → m < j → j < q → q ≤ top → get_or (taken_leaders t m top l) q 0 < 16
        → ((i : ℕ) → j < i → i < q → 16 ≤ get_or (taken_leaders t m top l) i 0)
        → get_or (taken_leaders t m top l) j 0 ≡ cond (in_history t q (only (get_or (taken_leaders t m top l) q 0)) (get_or l j 0) j) (get_or l j 0) 16
    unfolding taken_leaders
    taken_at led j q a c e h g =
        let z : suc (m + (top - 1 - m)) ≡ top = omega arith in
        chosen-all t m (top - 1 - m) (only (get_or l top 0)) top l
        (record { above = omega arith; long = long; led = led; gone = λ i x y. absurd (omega arith); reaches = λ i. rw z (sym (history-here t top (only (get_or l top 0)) i)) })
        j q a (omega arith) c e h g
