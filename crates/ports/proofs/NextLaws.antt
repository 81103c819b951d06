-- The line after the one that a reader has come to the end of: lists alone.
use Rattle.std.proofs.Common.{◌≡◌, refl, sym, ap, ◌∙◌, Bool, true, false, cond, List, [], ◌∷◌, ◌++◌, ◌≢◌, ℕ, suc, ◌+◌, ◌-◌, ◌<◌, ◌≤◌, arith, length, length-append, eqb, eq-eqb, ne_eqb, le-leb, Some, None}
use Rattle.std.proofs.lemmas.Option.{same_Some, none-some}
use Rattle.base.proofs.Words.{ℕ_discrete, dec_lt, lt-leb}
use Rattle.ports.specs.Cursors.{Lines, text, line_of, lines_after, Once, read_to, cursor_of}

-- no line comes again after a place's
abbrev pub Single : Lines → Type 0
Single l = (p : ℕ) (w : List ℕ) → line_of l p ≡ Some w → line_of (lines_after l p) p ≡ None

module _ (e : ℕ × List ℕ) (l : Lines) where
  pub line-here : line_of (e ∷ l) e.0 ≡ Some e.1
  unfolding line_of
  line-here = rw (eq-eqb e.0 e.0 refl) refl

  pub after-here : lines_after (e ∷ l) e.0 ≡ l
  unfolding lines_after
  after-here = rw (eq-eqb e.0 e.0 refl) refl

  pub line_else : (p : ℕ) → e.0 ≢ p → line_of (e ∷ l) p ≡ line_of l p
  unfolding line_of
  line_else p n = rw (ne_eqb e.0 p n) refl

  pub after_else : (p : ℕ) → e.0 ≢ p → lines_after (e ∷ l) p ≡ lines_after l p
  unfolding lines_after
  after_else p n = rw (ne_eqb e.0 p n) refl

  single_here : Single (e ∷ l) → line_of l e.0 ≡ None
  single_here s = ap (λ (x : Lines). line_of x e.0) (sym after-here) ∙ s e.0 e.1 line-here

  single_rest : Single (e ∷ l) → Single l
  single_rest s p w h = rw (after_else p n) at (s p w (line_else p n ∙ h))
    where
      n : e.0 ≢ p
      n q = none-some w (sym (rw q at (single_here s)) ∙ h)

pub once : (l : Lines) → Single l → Once l
once [] s = tt
once (e ∷ l) s = (single_here e l s, once l (single_rest e l s))

-- after the lines before, those of the rest
pub after-left : (l m : Lines) (p : ℕ) (w : List ℕ) → line_of l p ≡ Some w → lines_after (l ++ m) p ≡ lines_after l p ++ m
unfolding line_of lines_after
after-left [] m p w h = absurd (none-some w h)
after-left (e ∷ l) m p w h = go (eqb e.0 p) h (λ k. after-left l m p w k)
  where
    go : (b : Bool) → cond b (Some e.1) (line_of l p) ≡ Some w → (line_of l p ≡ Some w → lines_after (l ++ m) p ≡ lines_after l p ++ m) → cond b (l ++ m) (lines_after (l ++ m) p) ≡ cond b l (lines_after l p) ++ m
    go true k f = refl
    go false k f = f k

-- the first byte of the first line
pub read_first : (e : ℕ × List ℕ) (l : Lines) → 1 ≤ length e.1 → read_to (e ∷ l) e.0 1 ≡ 1
unfolding read_to
read_first e l h = rw (eq-eqb e.0 e.0 refl, le-leb 1 (length e.1) h) refl

read_else : (e : ℕ × List ℕ) (l : Lines) (p j : ℕ) → e.0 ≢ p → read_to (e ∷ l) p j ≡ length e.1 + read_to l p j
unfolding read_to
read_else e l p j n = rw (ne_eqb e.0 p n) refl

read_end : (e : ℕ × List ℕ) (l : Lines) → 1 ≤ length e.1 → read_to (e ∷ l) e.0 (length e.1) ≡ length e.1
unfolding read_to
read_end e l h = rw (eq-eqb e.0 e.0 refl, le-leb 1 (length e.1) h, le-leb (length e.1) (length e.1) (omega arith)) refl

-- the first byte of the line after it: one more is read then
pub record Follows (l : Lines) (p : ℕ) (w : List ℕ) (q : ℕ) (v : List ℕ) : Type 0 where
  pub line : line_of l q ≡ Some v
  pub read : read_to l q 1 ≡ suc (read_to l p (length w))

line-empty : (p : ℕ) → line_of [] p ≡ None
unfolding line_of
line-empty p = refl

-- a place that has a line in the rest is not the first one's
not_first : (e : ℕ × List ℕ) (l : Lines) (q : ℕ) (v : List ℕ) → line_of l e.0 ≡ None → line_of l q ≡ Some v → e.0 ≢ q
not_first e l q v n h x = none-some v (sym (rw x at n) ∙ h)

-- at the end of the first line
follows-first : (e : ℕ × List ℕ) (l : Lines) (q : ℕ) (v : List ℕ) (m : Lines) → line_of l e.0 ≡ None → 1 ≤ length e.1 → 1 ≤ length v → l ≡ (q, v) ∷ m → Follows (e ∷ l) e.0 e.1 q v
follows-first e l q v m o a b x =
    let h : line_of l q ≡ Some v = rw x (line-here (q, v) m) in
    let n = not_first e l q v o h in
    let r : read_to l q 1 ≡ 1 = rw x (read_first (q, v) m b) in
    record { line = line_else e l q n ∙ h; read = read_else e l q 1 n ∙ rw (r, read_end e l a) (omega arith) }

follows-rest : (e : ℕ × List ℕ) (l : Lines) (p : ℕ) (w : List ℕ) (q : ℕ) (v : List ℕ) → line_of l e.0 ≡ None → e.0 ≢ p → Follows l p w q v → Follows (e ∷ l) p w q v
follows-rest e l p w q v o d f =
    let n = not_first e l q v o f.line in
    record { line = line_else e l q n ∙ f.line; read = read_else e l q 1 n ∙ rw (f.read, read_else e l p (length w) d) (omega arith) }

pub follows : (l : Lines) → Once l → (p : ℕ) (w : List ℕ) (q : ℕ) (v : List ℕ) (m : Lines) → line_of l p ≡ Some w → 1 ≤ length w → 1 ≤ length v → lines_after l p ≡ (q, v) ∷ m → Follows l p w q v
follows [] o p w q v m h a b x = absurd (none-some w (sym (line-empty p) ∙ h))
follows (e ∷ l) o p w q v m h a b x = go (ℕ_discrete e.0 p) (λ i j. follows l o.1 p w q v m i a b j)
  where
    here : e.0 ≡ p → Follows (e ∷ l) e.0 e.1 q v
    here y =
        let i : e.1 ≡ w = same_Some e.1 w (sym (line-here e l) ∙ ap (line_of (e ∷ l)) y ∙ h) in
        follows-first e l q v m o.0 (rw i a) b (sym (after-here e l) ∙ ap (lines_after (e ∷ l)) y ∙ x)

    same : e.0 ≡ p → e.1 ≡ w
    same y = same_Some e.1 w (sym (line-here e l) ∙ ap (line_of (e ∷ l)) y ∙ h)

    go : Dec (e.0 ≡ p) → (line_of l p ≡ Some w → lines_after l p ≡ (q, v) ∷ m → Follows l p w q v) → Follows (e ∷ l) p w q v
    go (yes y) f = rw (← y, ← same y) (here y)
    go (no d) f = follows-rest e l p w q v o.0 d (f (sym (line_else e l p d) ∙ h) (sym (after_else e l p d) ∙ x))

-- the line after it is that of its place
pub line-follows : (l : Lines) → Once l → (p : ℕ) (w : List ℕ) (q : ℕ) (v : List ℕ) (m : Lines) → line_of l p ≡ Some w → lines_after l p ≡ (q, v) ∷ m → line_of l q ≡ Some v
line-follows [] o p w q v m h x = absurd (none-some w (sym (line-empty p) ∙ h))
line-follows (e ∷ l) o p w q v m h x = go (ℕ_discrete e.0 p) (λ i j. line-follows l o.1 p w q v m i j)
  where
    beyond : line_of l q ≡ Some v → line_of (e ∷ l) q ≡ Some v
    beyond i = line_else e l q (not_first e l q v o.0 i) ∙ i

    go : Dec (e.0 ≡ p) → (line_of l p ≡ Some w → lines_after l p ≡ (q, v) ∷ m → line_of l q ≡ Some v) → line_of (e ∷ l) q ≡ Some v
    go (yes y) f = let z : l ≡ (q, v) ∷ m = sym (after-here e l) ∙ ap (lines_after (e ∷ l)) y ∙ x in beyond (ap (λ (k : Lines). line_of k q) z ∙ line-here (q, v) m)
    go (no d) f = beyond (f (sym (line_else e l p d) ∙ h) (sym (after_else e l p d) ∙ x))

-- ---- back from a count of bytes to the last one

cursor-here : (e : ℕ × List ℕ) (l : Lines) (j : ℕ) → 1 ≤ j → j ≤ length e.1 → cursor_of (e ∷ l) j ≡ (e.0, j)
unfolding cursor_of
cursor-here e l j a b = rw (ne_eqb j 0 (λ q. absurd (omega arith)), le-leb j (length e.1) b) refl

cursor_else : (e : ℕ × List ℕ) (l : Lines) (n : ℕ) → 1 ≤ n → cursor_of (e ∷ l) (length e.1 + n) ≡ cursor_of l n
unfolding cursor_of
cursor_else e l n h =
    let z : length e.1 + n - length e.1 ≡ n = omega arith in
    rw (ne_eqb (length e.1 + n) 0 (λ q. absurd (omega arith)), lt-leb (length e.1 + n) (length e.1) (omega arith), z) refl

read_here : (e : ℕ × List ℕ) (l : Lines) (j : ℕ) → 1 ≤ j → j ≤ length e.1 → read_to (e ∷ l) e.0 j ≡ j
unfolding read_to
read_here e l j a b = rw (eq-eqb e.0 e.0 refl, le-leb 1 j a, le-leb j (length e.1) b) refl

-- something is read where a byte of a line is
pub read_some : (l : Lines) (p j : ℕ) (w : List ℕ) → line_of l p ≡ Some w → 1 ≤ j → j ≤ length w → 1 ≤ read_to l p j
read_some [] p j w h a b = absurd (none-some w (sym (line-empty p) ∙ h))
read_some (e ∷ l) p j w h a b = go (ℕ_discrete e.0 p) (λ i. read_some l p j w i a b)
  where
    go : Dec (e.0 ≡ p) → (line_of l p ≡ Some w → 1 ≤ read_to l p j) → 1 ≤ read_to (e ∷ l) p j
    go (yes y) f =
        let i : e.1 ≡ w = same_Some e.1 w (sym (line-here e l) ∙ ap (line_of (e ∷ l)) y ∙ h) in
        rw (← y, read_here e l j a (rw i b)) a
    go (no d) f = let k = f (sym (line_else e l p d) ∙ h) in rw (read_else e l p j d) (omega arith)

pub cursor-back : (l : Lines) (p j : ℕ) (w : List ℕ) → line_of l p ≡ Some w → 1 ≤ j → j ≤ length w → cursor_of l (read_to l p j) ≡ (p, j)
cursor-back [] p j w h a b = absurd (none-some w (sym (line-empty p) ∙ h))
cursor-back (e ∷ l) p j w h a b = go (ℕ_discrete e.0 p) (λ i. cursor-back l p j w i a b)
  where
    go : Dec (e.0 ≡ p) → (line_of l p ≡ Some w → cursor_of l (read_to l p j) ≡ (p, j)) → cursor_of (e ∷ l) (read_to (e ∷ l) p j) ≡ (p, j)
    go (yes y) f =
        let i : e.1 ≡ w = same_Some e.1 w (sym (line-here e l) ∙ ap (line_of (e ∷ l)) y ∙ h) in
        rw (← y, read_here e l j a (rw i b)) (cursor-here e l j a (rw i b))
    go (no d) f =
        let k = sym (line_else e l p d) ∙ h in
        rw (read_else e l p j d) (cursor_else e l (read_to l p j) (read_some l p j w k a b) ∙ f k)

-- the byte that a count tells
pub record Counted (l : Lines) (n p j : ℕ) : Type 0 where
  pub line : List ℕ
  pub there : line_of l p ≡ Some line
  pub from : 1 ≤ j
  pub to : j ≤ length line
  pub count : read_to l p j ≡ n

pub counted : (l : Lines) → Once l → (n : ℕ) → 1 ≤ n → n ≤ length (text l) → Counted l n (cursor_of l n).0 (cursor_of l n).1
unfolding text
counted [] o n a b = absurd (omega arith)
counted (e ∷ l) o n a b = go (dec_lt (length e.1) n) (λ m h k. counted l o.1 m h k)
  where
    room : length (e.1 ++ text l) ≡ length e.1 + length (text l)
    room = length-append e.1 (text l)

    here : n ≤ length e.1 → Counted (e ∷ l) n e.0 n
    here h = record { line = e.1; there = line-here e l; from = a; to = h; count = read_here e l n a h }

    later : (p j m : ℕ) → length e.1 + m ≡ n → Counted l m p j → Counted (e ∷ l) n p j
    later p j m z c =
        let d = not_first e l p c.line o.0 c.there in
        record { line = c.line; there = line_else e l p d ∙ c.there; from = c.from; to = c.to; count = read_else e l p j d ∙ rw c.count z }

    go : Dec (length e.1 < n) → ((m : ℕ) → 1 ≤ m → m ≤ length (text l) → Counted l m (cursor_of l m).0 (cursor_of l m).1) → Counted (e ∷ l) n (cursor_of (e ∷ l) n).0 (cursor_of (e ∷ l) n).1
    go (no h) f = rw (cursor-here e l n a (omega arith)) (here (omega arith))
    go (yes h) f =
        let m = n - length e.1 in
        let z : length e.1 + m ≡ n = omega arith in
        let c : cursor_of (e ∷ l) n ≡ cursor_of l m = ap (cursor_of (e ∷ l)) (sym z) ∙ cursor_else e l m (omega arith) in
        rw c (later (cursor_of l m).0 (cursor_of l m).1 m z (f m (omega arith) (omega (arith, room))))
