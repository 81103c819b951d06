-- The marks and block rounds after a history is marked and a block is made.
use Rattle.std.proofs.Common.{◌≡◌, refl, sym, ap, ◌∙◌, Bool, true, false, cond, ◌&&◌, ◌||◌, List, ◌≢◌, ℕ, zero, suc, ◌≤◌, ◌<◌, arith, eqb, ltb, eq-eqb, ne_eqb, lt-ltb, le-ltb}
use Rattle.base.proofs.Words.{and-true, and-false, dec_lt, ℕ_discrete}
use Rattle.base.proofs.Bools.{cond_same}
use Rattle.base.specs.Folds.{fold_to}
use Rattle.base.proofs.FoldLaws.{fold_kept}
use Rattle.base.proofs.Ranges.{fold_none, fold_next}
use Rattle.base.specs.Sets.{contains, only}
use Rattle.base.proofs.SetLaws.{in_member}
use Rattle.store.specs.Table.{used_length, Row, mark_at, block_round}
use Rattle.store.specs.Writes.{set_mark}
use Rattle.store.proofs.WriteLaws.{same_place, same_place_parts}
use Rattle.store.proofs.MarkLaws.{OnlyMarks, only-all, only-both, only_if, only-mark, only-block, mark-same, mark-other, mark-block, block-round-same, block-round-other, block-round-mark}
use Rattle.blocks.specs.History.{below}
use Rattle.blocks.specs.History.{in_history}
use Rattle.blocks.proofs.HistoryLaws.{history-split, history-above, history-marked}
use Rattle.blocks.specs.Blocks.{mark_place, mark_row, mark_history, add_block}

-- ---- nothing else changes

only-place : (c b s r a : ℕ) (t : List ℕ) → r ≤ c → OnlyMarks (used_length c) t (mark_place b s r a t)
unfolding mark_place
only-place c b s r a t h = go (contains s a) refl
  where
    go : (i : Bool) → contains s a ≡ i → OnlyMarks (used_length c) t (cond i (cond (eqb (mark_at t a r) 0) (set_mark t a r b) t) t)
    go true e = only_if (eqb (mark_at t a r) 0) (only-mark c t a r b (in_member s a e) h)
    go false e = only-all (used_length c) t

only-places : (c b s r k : ℕ) (t : List ℕ) → r ≤ c → OnlyMarks (used_length c) t (fold_to (mark_place b s r) k t)
only-places c b s r zero t h = rw (fold_none (mark_place b s r) t) (only-all (used_length c) t)
only-places c b s r (suc k) t h =
    rw (fold_next (mark_place b s r) k t)
    (only-both (only-places c b s r k t h) (only-place c b s r k (fold_to (mark_place b s r) k t) h))

pub only_row : (c b s r : ℕ) (t : List ℕ) → r ≤ c → OnlyMarks (used_length c) t (mark_row b s r t)
unfolding mark_row
only_row c b s r t h = only-places c b s r 16 t h

only-history : (c b r s : ℕ) (t : List ℕ) → r ≤ c → OnlyMarks (used_length c) t (mark_history b r s t)
unfolding mark_history
only-history c b zero s t h = only-all (used_length c) t
only-history c b (suc r) s t h = only-both (only_row c b s (suc r) t h) (only-history c b r (below t s (suc r)) (mark_row b s (suc r) t) (omega arith))

-- a block changes marks and block rounds, up to the row of its anchor
pub block-only : (c k a r : ℕ) (t : List ℕ) → k ≤ c → r ≤ c → OnlyMarks (used_length c) t (add_block k a r t)
unfolding add_block
block-only c k a r t h l = only-both (only-history c k r (only a) t l) (only-block c (mark_history k r (only a) t) k r h)

-- ---- marks

-- the mark of a certificate that had m, after block b: b, if it was in no block and is in the history h of b
abbrev pub new_mark : ℕ → Bool → ℕ → ℕ
new_mark b h m = cond (eqb m 0 && h) b m

mark-twice : (b m : ℕ) (x y : Bool) → new_mark b x (new_mark b y m) ≡ new_mark b (y || x) m
mark-twice b m x y = go (eqb m 0) refl x y
  where
    go : (z : Bool) → eqb m 0 ≡ z → (x y : Bool) → cond (eqb (cond (z && y) b m) 0 && x) b (cond (z && y) b m) ≡ cond (z && (y || x)) b m
    go true e x true = cond_same (eqb b 0 && x) b
    go true e x false = rw e refl
    go false e x y = rw e refl

module _ (b s r : ℕ) where
  place-mark : (a : ℕ) (t : List ℕ) → Row t r → (i q : ℕ) → i < 16 → mark_at (mark_place b s r a t) i q ≡ new_mark b (same_place i q a r && contains s i) (mark_at t i q)
  unfolding mark_place
  place-mark a t w i q h = go (same_place i q a r) refl
    where
      here : (x z : Bool) → contains s a ≡ x → eqb (mark_at t a r) 0 ≡ z → mark_at (cond x (cond z (set_mark t a r b) t) t) a r ≡ cond (z && x) b (mark_at t a r)
      here true true e f = mark-same t a r b (record { member = in_member s a e; row = w })
      here true false e f = refl
      here false true e f = refl
      here false false e f = refl

      other : same_place i q a r ≡ false → (x z : Bool) → contains s a ≡ x → mark_at (cond x (cond z (set_mark t a r b) t) t) i q ≡ mark_at t i q
      other n true true e = mark-other t a r b i q (in_member s a e) h n
      other n true false e = refl
      other n false z e = refl

      go : (p : Bool) → same_place i q a r ≡ p → mark_at (cond (contains s a) (cond (eqb (mark_at t a r) 0) (set_mark t a r b) t) t) i q ≡ new_mark b (p && contains s i) (mark_at t i q)
      go true e = let z = same_place_parts i q a r e in rw (z.0, z.1) (here (contains s a) (eqb (mark_at t a r) 0) refl refl)
      go false e = rw (and-false (eqb (mark_at t i q) 0)) (other e (contains s a) (eqb (mark_at t a r) 0) refl)

  -- the first k places of the row
  places-mark : (k : ℕ) (t : List ℕ) → Row t r → (i q : ℕ) → i < 16
      → mark_at (fold_to (mark_place b s r) k t) i q ≡ new_mark b ((eqb q r && ltb i k) && contains s i) (mark_at t i q)
  places-mark zero t w i q h = rw (fold_none (mark_place b s r) t, le-ltb i 0 (omega arith), and-false (eqb q r), and-false (eqb (mark_at t i q) 0)) refl
  places-mark (suc k) t w i q h =
      let o = only-places r b s r k t (omega arith) in
      ap (λ (u : List ℕ). mark_at u i q) (fold_next (mark_place b s r) k t)
      ∙ place-mark k (fold_to (mark_place b s r) k t) (omega (arith, o.size)) i q h
      ∙ ap (new_mark b (same_place i q k r && contains s i)) (places-mark k t w i q h)
      ∙ mark-twice b (mark_at t i q) (same_place i q k r && contains s i) ((eqb q r && ltb i k) && contains s i)
      ∙ ap (λ (z : Bool). new_mark b z (mark_at t i q)) (joined (eqb q r) (ltb i k) (eqb i k) (contains s i))
      ∙ ap (λ (z : Bool). new_mark b ((eqb q r && z) && contains s i) (mark_at t i q)) (more (dec_lt i k) (ℕ_discrete i k))
    where
      joined : (x y z w : Bool) → (((x && y) && w) || ((z && x) && w)) ≡ ((x && (y || z)) && w)
      joined true true z true = refl
      joined true true true false = refl
      joined true true false false = refl
      joined true false true w = refl
      joined true false false w = refl
      joined false y true w = refl
      joined false y false w = refl

      more : Dec (i < k) → Dec (i ≡ k) → (ltb i k || eqb i k) ≡ ltb i (suc k)
      more (yes l) d = rw (lt-ltb i k l, lt-ltb i (suc k) (omega arith)) refl
      more (no n) (yes e) = rw (le-ltb i k (omega arith), eq-eqb i k e, lt-ltb i (suc k) (omega arith)) refl
      more (no n) (no e) = rw (le-ltb i k (omega arith), ne_eqb i k e, le-ltb i (suc k) (omega arith)) refl

  pub row-mark : (t : List ℕ) → Row t r → (i q : ℕ) → i < 16 → mark_at (mark_row b s r t) i q ≡ new_mark b (eqb q r && contains s i) (mark_at t i q)
  unfolding mark_row
  row-mark t w i q h = places-mark 16 t w i q h ∙ rw (lt-ltb i 16 h, and-true (eqb q r)) refl

history-mark : (b r s : ℕ) (t : List ℕ) → Row t r → (i q : ℕ) → i < 16 → 0 < q → mark_at (mark_history b r s t) i q ≡ new_mark b (in_history t r s i q) (mark_at t i q)
unfolding mark_history
history-mark b zero s t w i q h z = rw (history-above t 0 s i q z, and-false (eqb (mark_at t i q) 0)) refl
history-mark b (suc r) s t w i q h z =
    let o = only_row (suc r) b s (suc r) t (omega arith) in
    history-mark b r (below t s (suc r)) (mark_row b s (suc r) t) (omega (arith, o.size)) i q h z
    ∙ ap (λ (x : Bool). new_mark b x (mark_at (mark_row b s (suc r) t) i q)) (history-marked o r (below t s (suc r)) i q)
    ∙ ap (new_mark b (in_history t r (below t s (suc r)) i q)) (row-mark b s (suc r) t w i q h)
    ∙ mark-twice b (mark_at t i q) (in_history t r (below t s (suc r)) i q) (eqb q (suc r) && contains s i)
    ∙ ap (λ (x : Bool). new_mark b x (mark_at t i q)) (sym (history-split t r s i q))

-- the marks after block b, of the anchor of author a and round r: it has what is in the anchor's history and was in no block
pub block-mark : (b a r : ℕ) (t : List ℕ) → Row t r → (i q : ℕ) → i < 16 → 0 < q → mark_at (add_block b a r t) i q ≡ new_mark b (in_history t r (only a) i q) (mark_at t i q)
unfolding add_block
block-mark b a r t w i q h z = mark-block (mark_history b r (only a) t) b r i q h ∙ history-mark b r (only a) t w i q h z

-- ---- block rounds

round-place : (b s r a j : ℕ) (t : List ℕ) → block_round (mark_place b s r a t) j ≡ block_round t j
unfolding mark_place
round-place b s r a j t = go (contains s a) (eqb (mark_at t a r) 0) refl
  where
    go : (x z : Bool) → contains s a ≡ x → block_round (cond x (cond z (set_mark t a r b) t) t) j ≡ block_round t j
    go true true e = block-round-mark t a r b j (in_member s a e)
    go true false e = refl
    go false z e = refl

round-history : (b r s j : ℕ) (t : List ℕ) → block_round (mark_history b r s t) j ≡ block_round t j
unfolding mark_history mark_row
round-history b zero s j t = refl
round-history b (suc r) s j t =
    round-history b r (below t s (suc r)) j (mark_row b s (suc r) t) ∙ fold_kept (λ u. block_round u j) (mark_place b s (suc r)) (λ a u. round-place b s (suc r) a j u) 16 t

pub block-round-new : (k a r : ℕ) (t : List ℕ) → Row t k → block_round (add_block k a r t) k ≡ r
unfolding add_block
block-round-new k a r t w = let o = only-history r k r (only a) t (omega arith) in block-round-same (mark_history k r (only a) t) k r (omega (arith, o.size))

pub block-round-old : (k a r j : ℕ) (t : List ℕ) → j ≢ k → block_round (add_block k a r t) j ≡ block_round t j
unfolding add_block
block-round-old k a r j t n = block-round-other (mark_history k r (only a) t) k r j n ∙ round-history k r (only a) j t
