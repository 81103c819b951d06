-- Where a reader stands after n bytes tells that it has read n.
use Rattle.std.proofs.Common.{◌≡◌, refl, sym, ap, ◌∙◌, Bool, true, false, cond, ◌&&◌, List, [], ◌∷◌, ◌≢◌, ℕ, ◌-◌, ◌<◌, ◌≤◌, arith, length, length-append, eqb, eq-eqb, ne_eqb, le-leb, Some, None}
use Rattle.std.proofs.lemmas.Option.{none-some}
use Rattle.base.proofs.Words.{ℕ_discrete, dec_lt, lt-leb}
use Rattle.ports.specs.Cursors.{Lines, text, line_of, Once, read_to, bytes_read, cursor_of}
use Rattle.ports.proofs.NextLaws.{line-here, line_else}

pub cursor-zero : (l : Lines) → cursor_of l 0 ≡ (0, 0)
unfolding cursor_of
cursor-zero [] = refl
cursor-zero (e ∷ l) = refl

-- byte c .1 of the line of place c .0 is byte n of the listing, both counted from 1
pub record Stands (l : Lines) (n : ℕ) (c : ℕ × ℕ) : Type 0 where
  pub line : List ℕ
  pub there : line_of l c.0 ≡ Some line
  pub from : 1 ≤ c.1
  pub to : c.1 ≤ length line
  pub count : read_to l c.0 c.1 ≡ n

-- behind the first line
later : (e : ℕ × List ℕ) (l : Lines) (n : ℕ) (c : ℕ × ℕ) → line_of l e.0 ≡ None → Stands l (n - length e.1) c → length e.1 < n → Stands (e ∷ l) n c
unfolding read_to
later e l n c o x h = record { line = x.line; there = line_else e l c.0 other ∙ x.there; from = x.from; to = x.to; count = rw (ne_eqb e.0 c.0 other, x.count) (omega arith) }
  where
    other : e.0 ≢ c.0
    other q = none-some x.line (sym o ∙ ap (line_of l) q ∙ x.there)

stands : (l : Lines) → Once l → (n : ℕ) → 1 ≤ n → n ≤ length (text l) → Stands l n (cursor_of l n)
unfolding text cursor_of read_to
stands [] o n h k = absurd (omega arith)
stands (e ∷ l) o n h k = go (dec_lt (length e.1) n) (λ i. stands l o.1 (n - length e.1) (omega arith) (omega (arith, length-append e.1 (text l))))
  where
    go : Dec (length e.1 < n) → (length e.1 < n → Stands l (n - length e.1) (cursor_of l (n - length e.1))) → Stands (e ∷ l) n (cursor_of (e ∷ l) n)
    go (yes i) f = rw (ne_eqb n 0 (omega arith), lt-leb n (length e.1) i) (later e l n (cursor_of l (n - length e.1)) o.0 (f i) i)
    go (no i) f =
        rw (ne_eqb n 0 (omega arith), le-leb n (length e.1) (omega arith))
        (record { line = e.1; there = line-here e l; from = h; to = omega arith; count = rw (eq-eqb e.0 e.0 refl, le-leb 1 n h, le-leb n (length e.1) (omega arith)) refl })

pub count-back : (l : Lines) → Once l → (n : ℕ) → n ≤ length (text l) → bytes_read l (cursor_of l n).0 (cursor_of l n).1 ≡ n
unfolding bytes_read
count-back l o n h = go (ℕ_discrete n 0)
  where
    apart : (b : Bool) (z : ℕ) → cond (b && false) 0 z ≡ z
    apart true z = refl
    apart false z = refl

    go : Dec (n ≡ 0) → cond (eqb (cursor_of l n).0 0 && eqb (cursor_of l n).1 0) 0 (read_to l (cursor_of l n).0 (cursor_of l n).1) ≡ n
    go (yes z) = rw (z, cursor-zero l) refl
    go (no z) =
        let x = stands l o n (omega arith) h in
        rw (ne_eqb (cursor_of l n).1 0 (omega (arith, x.from))) (apart (eqb (cursor_of l n).0 0) (read_to l (cursor_of l n).0 (cursor_of l n).1) ∙ x.count)
