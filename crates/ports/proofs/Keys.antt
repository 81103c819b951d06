-- Lines by key: key q of a block has the line `at q`, if any, of the place `place q`.
use Rattle.std.proofs.Common.{◌≡◌, refl, sym, ap, ◌∙◌, Bool, true, false, cond, List, [], ◌∷◌, ◌++◌, append_assoc, ◌≢◌, ℕ, zero, suc, ◌+◌, ◌-◌, ◌<◌, ◌≤◌, arith, eqb, eq-eqb, ne_eqb, Option, Some, None}
use Rattle.std.proofs.lemmas.Option.{none-some}
use Rattle.ports.specs.Cursors.{Lines, line_of, lines_after}

-- ---- lists of lines in two parts

pub line-left : (l m : Lines) (p : ℕ) (w : List ℕ) → line_of l p ≡ Some w → line_of (l ++ m) p ≡ Some w
unfolding line_of
line-left [] m p w h = absurd (none-some w h)
line-left (e ∷ l) m p w h = go (eqb e.0 p) h (λ k. line-left l m p w k)
  where
    go : (b : Bool) → cond b (Some e.1) (line_of l p) ≡ Some w → (line_of l p ≡ Some w → line_of (l ++ m) p ≡ Some w) → cond b (Some e.1) (line_of (l ++ m) p) ≡ Some w
    go true k f = k
    go false k f = f k

pub line-right : (l m : Lines) (p : ℕ) → line_of l p ≡ None → (line_of (l ++ m) p ≡ line_of m p) × (lines_after (l ++ m) p ≡ lines_after m p)
unfolding line_of lines_after
line-right [] m p h = (refl, refl)
line-right (e ∷ l) m p h = go (eqb e.0 p) h (λ k. line-right l m p k)
  where
    go : (b : Bool) → cond b (Some e.1) (line_of l p) ≡ None → (line_of l p ≡ None → (line_of (l ++ m) p ≡ line_of m p) × (lines_after (l ++ m) p ≡ lines_after m p))
        → (cond b (Some e.1) (line_of (l ++ m) p) ≡ line_of m p) × (cond b (l ++ m) (lines_after (l ++ m) p) ≡ lines_after m p)
    go true k f = absurd (none-some e.1 (sym k))
    go false k f = f k

pub line_first : (p : ℕ) (w : List ℕ) (m : Lines) → (line_of ((p, w) ∷ m) p ≡ Some w) × (lines_after ((p, w) ∷ m) p ≡ m)
unfolding line_of lines_after
line_first p w m = rw (eq-eqb p p refl) (refl, refl)

-- ---- by key

module _ (at : ℕ → Option (List ℕ)) (place : ℕ → ℕ) where
  abbrev pub one : ℕ → Option (List ℕ) → Lines
  one q None = []
  one q (Some w) = (place q, w) ∷ []

  -- the lines of the k keys from a on
  unfoldable pub key_lines : ℕ → ℕ → Lines
  key_lines a zero = []
  key_lines a (suc k) = one a (at a) ++ key_lines (suc a) k

  -- keys in two parts
  pub keys-both : (a k j : ℕ) → key_lines a (k + j) ≡ key_lines a k ++ key_lines (a + k) j
  unfolding key_lines
  keys-both a zero j = let e : a + 0 ≡ a = omega arith in let z : 0 + j ≡ j = omega arith in rw (e, z) refl
  keys-both a (suc k) j =
      let e : suc a + k ≡ a + suc k = omega arith in
      let z : suc k + j ≡ suc (k + j) = omega arith in
      rw (z) (ap (λ (l : Lines). one a (at a) ++ l) (keys-both (suc a) k j) ∙ rw e (sym (append_assoc (one a (at a)) (key_lines (suc a) k) (key_lines (a + suc k) j))))

  -- places that no key has have no line
  pub keys_nowhere : (a k p : ℕ) → ((q : ℕ) → a ≤ q → q < a + k → (w : List ℕ) → at q ≡ Some w → place q ≢ p) → line_of (key_lines a k) p ≡ None
  unfolding key_lines line_of
  keys_nowhere a zero p f = refl
  keys_nowhere a (suc k) p f = go (at a) refl (keys_nowhere (suc a) k p (λ q l u. f q (omega arith) (omega arith)))
    where
      go : (o : Option (List ℕ)) → at a ≡ o → line_of (key_lines (suc a) k) p ≡ None → line_of (one a o ++ key_lines (suc a) k) p ≡ None
      go None e h = h
      go (Some w) e h = rw (ne_eqb (place a) p (f a (omega arith) (omega arith) w e)) h

  -- places are of one key
  abbrev pub Apart : ℕ → ℕ → Type 0
  Apart a k = (i j : ℕ) → a ≤ i → i < j → j < a + k → place i ≢ place j

  keys-first : (q j : ℕ) (w : List ℕ) → at q ≡ Some w → key_lines q (suc j) ≡ (place q, w) ∷ key_lines (suc q) j
  unfolding key_lines
  keys-first q j w e = rw e refl

  -- a key's line, and those after it
  pub keys-at : (a k d : ℕ) (w : List ℕ) → d < k → Apart a k → at (a + d) ≡ Some w
      → (line_of (key_lines a k) (place (a + d)) ≡ Some w) × (lines_after (key_lines a k) (place (a + d)) ≡ key_lines (suc (a + d)) (k - suc d))
  keys-at a k d w h f e =
      let s : d + suc (k - suc d) ≡ k = omega arith in
      let n = keys_nowhere a d (place (a + d)) (λ q l u v _. f q (a + d) l (omega arith) (omega arith)) in
      let r = line-right (key_lines a d) (key_lines (a + d) (suc (k - suc d))) (place (a + d)) n in
      let x = line_first (place (a + d)) w (key_lines (suc (a + d)) (k - suc d)) in
      let b : key_lines (a + d) (suc (k - suc d)) ≡ (place (a + d), w) ∷ key_lines (suc (a + d)) (k - suc d) = keys-first (a + d) (k - suc d) w e in
      let c = ap (key_lines a) (sym s) ∙ keys-both a d (suc (k - suc d)) in
      rw c (r.0 ∙ rw b x.0, r.1 ∙ rw b x.1)

  -- keys without a line are passed over
  pub keys-skip : (a k d : ℕ) → d ≤ k → ((i : ℕ) → i < d → at (a + i) ≡ None) → key_lines a k ≡ key_lines (a + d) (k - d)
  unfolding key_lines
  keys-skip a k zero h f = let e : a + 0 ≡ a = omega arith in let z : k - 0 ≡ k = omega arith in rw (e, z) refl
  keys-skip a zero (suc d) h f = absurd (omega arith)
  keys-skip a (suc k) (suc d) h f =
      let e : suc a + d ≡ a + suc d = omega arith in
      let z : suc k - suc d ≡ k - d = omega arith in
      let o : a + 0 ≡ a = omega arith in
      let n : at a ≡ None = rw o at (f 0 (omega arith)) in
      rw (n, z) (keys-skip (suc a) k d (omega arith) (λ i l. let y : suc a + i ≡ a + suc i = omega arith in rw y (f (suc i) (omega arith))) ∙ rw e refl)
