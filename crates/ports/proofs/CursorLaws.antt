-- Laws of where a port stands: its two words alone tell whether it has read past the end, and the byte after those read is the next one of its line or the first of the next line.
use Rattle.std.proofs.Common.{◌≡◌, refl, sym, ap, ◌∙◌, Bool, true, false, cond, true≢false, List, [], ◌∷◌, ◌++◌, ℕ, suc, ◌+◌, ◌<◌, ◌≤◌, arith, eqb, leb, length, get_or, length-append, get_or-append-add, le-leb, leb-true, Some, None}
use Rattle.std.proofs.lemmas.Option.{same_Some, none-some}
use Rattle.base.proofs.Words.{get_or-append, lt-leb}
use Rattle.base.proofs.Bools.{both}
use Rattle.ports.specs.Cursors.{Lines, text, line_of, lines_after, in_line, read_to}

text-more : (e : ℕ × List ℕ) (l : Lines) → length (text (e ∷ l)) ≡ length e.1 + length (text l)
unfolding text
text-more e l = length-append e.1 (text l)

le_add : (n a b : ℕ) → leb (n + a) (n + b) ≡ leb a b
le_add n a b = by (dec_le a b)
  where
    dec_le : (a b : ℕ) → Dec (a ≤ b)
    dec_le a b = go (leb a b) refl
      where
        go : (z : Bool) → leb a b ≡ z → Dec (a ≤ b)
        go true e = yes (leb-true a b e)
        go false e = no (λ h. true≢false (sym (le-leb a b h) ∙ e))

    by : Dec (a ≤ b) → leb (n + a) (n + b) ≡ leb a b
    by (yes h) = rw (le-leb a b h, le-leb (n + a) (n + b) (omega arith)) refl
    by (no h) = rw (lt-leb a b (omega arith), lt-leb (n + a) (n + b) (omega arith)) refl

-- the place has a line: the byte decides
pub here-fits : (l : Lines) (p j : ℕ) (w : List ℕ) → line_of l p ≡ Some w → leb (read_to l p j) (length (text l)) ≡ in_line j (length w)
unfolding line_of read_to
here-fits [] p j w h = absurd (none-some w h)
here-fits (e ∷ l) p j w h = go (eqb e.0 p) h (λ k. here-fits l p j w k)
  where
    at : (b : Bool) → in_line j (length e.1) ≡ b → leb (cond b j (suc (length (text (e ∷ l))))) (length (text (e ∷ l))) ≡ b
    at true i = let k = (both (leb 1 j) (leb j (length e.1)) i).1 in le-leb j (length (text (e ∷ l))) (omega (arith, leb-true j (length e.1) k, text-more e l))
    at false i = lt-leb (suc (length (text (e ∷ l)))) (length (text (e ∷ l))) (omega arith)

    go : (b : Bool) → cond b (Some e.1) (line_of l p) ≡ Some w → (line_of l p ≡ Some w → leb (read_to l p j) (length (text l)) ≡ in_line j (length w))
        → leb (cond b (cond (in_line j (length e.1)) j (suc (length (text (e ∷ l))))) (length e.1 + read_to l p j)) (length (text (e ∷ l))) ≡ in_line j (length w)
    go true k f = at (in_line j (length e.1)) refl ∙ ap (λ (z : List ℕ). in_line j (length z)) (same_Some e.1 w k)
    go false k f = rw (text-more e l) (le_add (length e.1) (read_to l p j) (length (text l)) ∙ f k)

-- it has none: past the end
pub nowhere_fits : (l : Lines) (p j : ℕ) → line_of l p ≡ None → leb (read_to l p j) (length (text l)) ≡ false
unfolding line_of read_to text
nowhere_fits [] p j h = refl
nowhere_fits (e ∷ l) p j h = go (eqb e.0 p) h (λ k. nowhere_fits l p j k)
  where
    go : (b : Bool) → cond b (Some e.1) (line_of l p) ≡ None → (line_of l p ≡ None → leb (read_to l p j) (length (text l)) ≡ false)
        → leb (cond b (cond (in_line j (length e.1)) j (suc (length (text (e ∷ l))))) (length e.1 + read_to l p j)) (length (text (e ∷ l))) ≡ false
    go true k f = absurd (none-some e.1 (sym k))
    go false k f = rw (text-more e l) (le_add (length e.1) (read_to l p j) (length (text l)) ∙ f k)

-- one byte more of the same line
pub same_line : (l : Lines) (p j : ℕ) (w : List ℕ) → line_of l p ≡ Some w → 1 ≤ j → j < length w
    → (read_to l p (suc j) ≡ suc (read_to l p j)) × (get_or (text l) (read_to l p j) 0 ≡ get_or w j 0)
unfolding line_of read_to text
same_line [] p j w h a b = absurd (none-some w h)
same_line (e ∷ l) p j w h a b = go (eqb e.0 p) h (λ k. same_line l p j w k a b)
  where
    go : (z : Bool) → cond z (Some e.1) (line_of l p) ≡ Some w
        → (line_of l p ≡ Some w → (read_to l p (suc j) ≡ suc (read_to l p j)) × (get_or (text l) (read_to l p j) 0 ≡ get_or w j 0))
        → (cond z (cond (in_line (suc j) (length e.1)) (suc j) (suc (length (text (e ∷ l))))) (length e.1 + read_to l p (suc j))
        ≡ suc (cond z (cond (in_line j (length e.1)) j (suc (length (text (e ∷ l))))) (length e.1 + read_to l p j)))
        × (get_or (e.1 ++ text l) (cond z (cond (in_line j (length e.1)) j (suc (length (text (e ∷ l))))) (length e.1 + read_to l p j)) 0 ≡ get_or w j 0)
    go true k f =
        let q = same_Some e.1 w k in
        let n = ap length q in
        rw (le-leb 1 j a, le-leb j (length e.1) (omega arith), le-leb 1 (suc j) (omega arith), le-leb (suc j) (length e.1) (omega arith))
        (refl, get_or-append e.1 (text l) 0 j (omega arith) ∙ ap (λ (z : List ℕ). get_or z j 0) q)
    go false k f = let x = f k in (rw x.0 (omega arith), get_or-append-add e.1 (text l) (read_to l p j) 0 ∙ x.1)

-- the first byte of the next line, after the last one of this
pub next-line : (l : Lines) (p : ℕ) (w : List ℕ) → line_of l p ≡ Some w → 1 ≤ length w
    → (length (text l) ≡ read_to l p (length w) + length (text (lines_after l p))) × (get_or (text l) (read_to l p (length w)) 0 ≡ get_or (text (lines_after l p)) 0 0)
unfolding line_of read_to text lines_after
next-line [] p w h a = absurd (none-some w h)
next-line (e ∷ l) p w h a = go (eqb e.0 p) h (λ k. next-line l p w k a)
  where
    go : (z : Bool) → cond z (Some e.1) (line_of l p) ≡ Some w
        → (line_of l p ≡ Some w → (length (text l) ≡ read_to l p (length w) + length (text (lines_after l p))) × (get_or (text l) (read_to l p (length w)) 0 ≡ get_or (text (lines_after l p)) 0 0))
        → (length (e.1 ++ text l) ≡ cond z (cond (in_line (length w) (length e.1)) (length w) (suc (length (text (e ∷ l))))) (length e.1 + read_to l p (length w)) + length (text (cond z l (lines_after l p))))
        × (get_or (e.1 ++ text l) (cond z (cond (in_line (length w) (length e.1)) (length w) (suc (length (text (e ∷ l))))) (length e.1 + read_to l p (length w))) 0 ≡ get_or (text (cond z l (lines_after l p))) 0 0)
    go true k f =
        let q = same_Some e.1 w k in
        let n = ap length q in
        let m : length e.1 + 0 ≡ length e.1 = omega arith in
        rw (← n, le-leb 1 (length e.1) (omega arith), le-leb (length e.1) (length e.1) (omega arith))
        (length-append e.1 (text l), ap (λ (i : ℕ). get_or (e.1 ++ text l) i 0) (sym m) ∙ get_or-append-add e.1 (text l) 0 0)
    go false k f =
        let x = f k in
        (length-append e.1 (text l) ∙ rw x.0 (omega arith), get_or-append-add e.1 (text l) (read_to l p (length w)) 0 ∙ x.1)

-- more lines after those leave what has been read
pub read-grows : (l m : Lines) (p j : ℕ) (w : List ℕ) → line_of l p ≡ Some w → in_line j (length w) ≡ true → (read_to (l ++ m) p j ≡ read_to l p j) × (line_of (l ++ m) p ≡ Some w)
unfolding line_of read_to
read-grows [] m p j w h i = absurd (none-some w h)
read-grows (e ∷ l) m p j w h i = go (eqb e.0 p) h (λ k. read-grows l m p j w k i)
  where
    go : (z : Bool) → cond z (Some e.1) (line_of l p) ≡ Some w → (line_of l p ≡ Some w → (read_to (l ++ m) p j ≡ read_to l p j) × (line_of (l ++ m) p ≡ Some w))
        → (cond z (cond (in_line j (length e.1)) j (suc (length (text (e ∷ (l ++ m)))))) (length e.1 + read_to (l ++ m) p j)
        ≡ cond z (cond (in_line j (length e.1)) j (suc (length (text (e ∷ l))))) (length e.1 + read_to l p j))
        × (cond z (Some e.1) (line_of (l ++ m) p) ≡ Some w)
    go true k f =
        let q = same_Some e.1 w k in
        let x = ap (λ (z : List ℕ). in_line j (length z)) q ∙ i in
        (rw x refl, k)
    go false k f = let x = f k in (rw x.0 refl, x.1)
