-- Marking the blocks of a commit makes the chain that the commit makes.
use Rattle.std.proofs.Common.{◌≡◌, refl, sym, ap, ap₂, ◌∙◌, Bool, true, false, not, ◌&&◌, ◌||◌, cond, true≢false, List, [], ◌∷◌, ℕ, zero, suc, ◌+◌, ◌-◌, ◌≤◌, ◌<◌, arith, eqb, eqb-true, eq-eqb, ne_eqb, length, Option, Some, None}
use Rattle.base.proofs.Words.{ℕ_discrete}
use Rattle.base.proofs.Bools.{cond_same}
use Rattle.agreement.specs.Rules.{Chain, last, Rules}
use Rattle.agreement.specs.View.{View}
use Rattle.agreement.specs.Dag.{is_held, Held, Placed}
use Rattle.agreement.specs.Histories.{in_history}
use Rattle.agreement.proofs.HistoryLaws.{history-held}
use Rattle.agreement.specs.Commits.{in_chain, anchor_at, block_of, blocks_of, choose, taken, committed}
use Rattle.agreement.proofs.CommitLaws.{anchor-held}
use Rattle.agreement.specs.Marks.{marked, marked_chain, rounds_of, mark_block, marks_of, MarksFit}

module _ {P : Type 0} (d : ℕ → ℕ → Option P) where
  -- chains with the same blocks
  same_blocks : (m n : ℕ → ℕ → ℕ) (l : List ℕ)
      → ((j a q : ℕ) → 0 < j → j ≤ length l → cond (eqb (m a q) j) (d a q) None ≡ cond (eqb (n a q) j) (d a q) None)
      → marked_chain d m l ≡ marked_chain d n l
  unfolding marked_chain
  same_blocks m n [] f = refl
  same_blocks m n (r ∷ l) f =
      ap₂ ◌∷◌ (λ i. record { round = r; holds = λ a q. f (suc (length l)) a q (omega arith) (omega arith) i })
      (same_blocks m n l λ j a q p h. f j a q p (omega arith))

module _ {R : Rules} (s : View R) where
  open R use {P, round}

  -- every certificate of the list is held
  abbrev pub AllHeld : List P → Type 0
  AllHeld [] = Unit {0}
  AllHeld (x ∷ l) = Held s x × AllHeld l

  -- a place is used by a chain if its mark is among the chain's numbers
  used_mark : (m : ℕ → ℕ → ℕ) (l : List ℕ) (a q : ℕ) → is_held (s.dag a q) ≡ true → m a q ≤ length l
      → in_chain (marked_chain s.dag m l) a q ≡ not (eqb (m a q) 0)
  unfolding marked_chain in_chain
  used_mark m [] a q h k = let e : m a q ≡ 0 = omega arith in rw e refl
  used_mark m (r ∷ l) a q h k = go (ℕ_discrete (m a q) (suc (length l))) (used_mark m l a q h)
    where
      go : Dec (m a q ≡ suc (length l)) → (m a q ≤ length l → in_chain (marked_chain s.dag m l) a q ≡ not (eqb (m a q) 0))
          → (is_held (cond (eqb (m a q) (suc (length l))) (s.dag a q) None) || in_chain (marked_chain s.dag m l) a q) ≡ not (eqb (m a q) 0)
      go (yes e) f =
          let z : eqb (m a q) 0 ≡ false = ne_eqb (m a q) 0 (omega arith) in
          let y : eqb (m a q) (suc (length l)) ≡ true = eq-eqb (m a q) (suc (length l)) e in
          rw (y, z, h) refl
      go (no n) f = rw (ne_eqb (m a q) (suc (length l)) n) (f (omega arith))

  module _ (x : P) (m : ℕ → ℕ → ℕ) (l : List ℕ) (fits : MarksFit s m (length l)) where
    old-blocks : marked_chain s.dag (mark_block s x (suc (length l)) m) l ≡ marked_chain s.dag m l
    unfolding mark_block
    old-blocks = same_blocks s.dag (mark_block s x (suc (length l)) m) m l λ j a q p h. go j a q p h (eqb (m a q) 0) (in_history s x q a) refl
      where
        go : (j a q : ℕ) → 0 < j → j ≤ length l → (z i : Bool) → eqb (m a q) 0 ≡ z
            → cond (eqb (cond (z && i) (suc (length l)) (m a q)) j) (s.dag a q) None ≡ cond (eqb (m a q) j) (s.dag a q) None
        go j a q p h true true e =
            let k = eqb-true (m a q) 0 e in
            rw (ne_eqb (suc (length l)) j (omega arith), ne_eqb (m a q) j (omega arith)) refl
        go j a q p h true false e = refl
        go j a q p h false i e = refl

    new-block : (a q : ℕ) → (marked s.dag (mark_block s x (suc (length l)) m) (suc (length l)) (round x)).holds a q ≡ (block_of s x (marked_chain s.dag m l)).holds a q
    unfolding mark_block block_of
    new-block a q = held (s.dag a q) refl
      where
        cases : (z i : Bool) → eqb (m a q) 0 ≡ z → cond (eqb (cond (z && i) (suc (length l)) (m a q)) (suc (length l))) (s.dag a q) None ≡ cond (i && not (not z)) (s.dag a q) None
        cases true true e = rw (eq-eqb (suc (length l)) (suc (length l)) refl) refl
        cases true false e = let k = eqb-true (m a q) 0 e in rw (ne_eqb (m a q) (suc (length l)) (omega arith)) refl
        cases false true e = rw (ne_eqb (m a q) (suc (length l)) (omega (arith, fits.range a q))) refl
        cases false false e = rw (ne_eqb (m a q) (suc (length l)) (omega (arith, fits.range a q))) refl

        held : (o : Option P) → s.dag a q ≡ o
            → cond (eqb (cond (eqb (m a q) 0 && in_history s x q a) (suc (length l)) (m a q)) (suc (length l))) (s.dag a q) None
            ≡ cond (in_history s x q a && not (in_chain (marked_chain s.dag m l) a q)) (s.dag a q) None
        held None e =
            rw e (cond_same (eqb (cond (eqb (m a q) 0 && in_history s x q a) (suc (length l)) (m a q)) (suc (length l))) None
            ∙ sym (cond_same (in_history s x q a && not (in_chain (marked_chain s.dag m l) a q)) None))
        held (Some p) e = rw (used_mark m l a q (rw e refl) (fits.range a q)) (cases (eqb (m a q) 0) (in_history s x q a) refl)

    -- marking one more block adds that block to the chain
    pub mark-block : marked_chain s.dag (mark_block s x (suc (length l)) m) (round x ∷ l) ≡ block_of s x (marked_chain s.dag m l) ∷ marked_chain s.dag m l
    unfolding marked_chain block_of
    mark-block = ap₂ ◌∷◌ (λ i. record { round = round x; holds = λ a q. new-block a q i }) old-blocks

module _ {R : Rules} {s : View R} (X : Placed s) where
  open R use {P, author, round}

  -- the anchors that a commit takes are held
  pub taken-held : (n : ℕ) (x : P) → AllHeld s (taken s n x)
  unfolding taken
  taken-held zero x = tt
  taken-held (suc n) x = go (anchor_at s (last s.chain + suc n)) refl (taken-held n)
    where
      test : (q : P) → Held s q → (b : Bool) → ((y : P) → AllHeld s (taken s n y)) → AllHeld s (cond b (q ∷ taken s n q) (taken s n x))
      test q h true f = (h, f q)
      test q h false f = f x

      go : (o : Option P) → anchor_at s (last s.chain + suc n) ≡ o → ((y : P) → AllHeld s (taken s n y)) → AllHeld s (choose s x (λ y. taken s n y) o)
      go None e f = f x
      go (Some q) e f = test q (anchor-held X (last s.chain + suc n) e) (in_history s x (round q) (author q)) f

  fits_more : (x : P) (m : ℕ → ℕ → ℕ) (n : ℕ) → Held s x → MarksFit s m n → MarksFit s (mark_block s x (suc n) m) (suc n)
  unfolding mark_block
  fits_more x m n hx f = record { range = λ a q. range a q (eqb (m a q) 0 && in_history s x q a); only_held = λ a q. only a q (eqb (m a q) 0) (in_history s x q a) refl }
    where
      range : (a q : ℕ) (b : Bool) → cond b (suc n) (m a q) ≤ suc n
      range a q true = omega arith
      range a q false = omega (arith, f.range a q)

      only : (a q : ℕ) (z i : Bool) → in_history s x q a ≡ i → is_held (s.dag a q) ≡ false → cond (z && i) (suc n) (m a q) ≡ 0
      only a q true true e h = absurd (true≢false (sym e ∙ history-held X hx q a h))
      only a q true false e h = f.only_held a q h
      only a q false i e h = f.only_held a q h

  module _ (m : ℕ → ℕ → ℕ) (rs : List ℕ) (fits : MarksFit s m (length rs)) where
    -- marks fit after a commit where they fitted before
    pub fits-commit : (l : List P) → AllHeld s l → MarksFit s (marks_of s m rs l) (length (rounds_of R rs l))
    unfolding marks_of rounds_of
    fits-commit [] h = fits
    fits-commit (x ∷ l) h = fits_more x (marks_of s m rs l) (length (rounds_of R rs l)) h.0 (fits-commit l h.1)

    -- marking the blocks of a commit makes the chain that the commit makes
    pub marks-commit : s.chain ≡ marked_chain s.dag m rs → (l : List P) → AllHeld s l → marked_chain s.dag (marks_of s m rs l) (rounds_of R rs l) ≡ blocks_of s l
    unfolding marks_of rounds_of blocks_of
    marks-commit e [] h = sym e
    marks-commit e (x ∷ l) h =
        let c = marks-commit e l h.1 in
        mark-block s x (marks_of s m rs l) (rounds_of R rs l) (fits-commit l h.1) ∙ ap (λ (z : Chain P). block_of s x z ∷ z) c

    -- the marks and rounds after a commit of the anchor x stand for the chain after it
    pub marks-committed : s.chain ≡ marked_chain s.dag m rs → (x : P) → Held s x
        → let l = x ∷ taken s (round x - suc (last s.chain)) x in marked_chain s.dag (marks_of s m rs l) (rounds_of R rs l) ≡ committed s x
    unfolding committed
    marks-committed e x h = let n = round x - suc (last s.chain) in marks-commit e (x ∷ taken s n x) (h, taken-held n x)
