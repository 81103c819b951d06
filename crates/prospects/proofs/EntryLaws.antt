-- Laws of entries as words.
use Rattle.std.proofs.Common.{◌≡◌, refl, ap, ◌∙◌, Bool, true, false, List, [], ◌++◌, ℕ, zero, suc, ◌+◌, ◌-◌, ◌%◌, ◌<◌, ◌≤◌, arith, add-one, length, set, length-append}
use Rattle.base.specs.Puts.{Puts}
use Rattle.prospects.specs.Entries.{entry_words, entry_if, row_entries, rows_entries}

-- the three words of an entry
pub entry_put : (t : List ℕ) (at k r a : ℕ) → Puts t (set (set (set t at k) (at + 1) r) (at + 2) a) at (at + 3) (entry_words k r a) 3
entry_put t at k r a =
    let one : at + 1 ≡ suc at = omega arith in
    let two : at + 2 ≡ suc (suc at) = omega arith in
    record { bytes = rw (one, two) refl; past = refl; room = omega arith }

module _ (b : Bool) (k r a : ℕ) where
  pub entry_there : b ≡ true → entry_if b k r a ≡ entry_words k r a
  unfolding entry_if
  entry_there h = rw h refl

  pub entry_none : b ≡ false → entry_if b k r a ≡ []
  unfolding entry_if
  entry_none h = rw h refl

-- what more is put makes a list longer
longer : (l m : List ℕ) → length l ≤ length (l ++ m)
longer l m = rw (length-append l m) (omega arith)

-- a list that grows by what f puts behind it, place by place
module _ (f : ℕ → List ℕ) (more : (n : ℕ) → length (f n) ≤ length (f (suc n))) where
  grows : (n d : ℕ) → length (f n) ≤ length (f (n + d))
  grows n zero = let e : n + 0 ≡ n = omega arith in rw e (omega arith)
  grows n (suc d) =
      let e : n + suc d ≡ suc (n + d) = omega arith in
      let a = grows n d in
      let b = more (n + d) in
      rw e (omega arith)

  grows-to : (n m : ℕ) → n ≤ m → length (f n) ≤ length (f m)
  grows-to n m h = let e : n + (m - n) ≡ m = omega arith in rw e at (grows n (m - n))

module _ (f : ℕ → Bool) (k r a : ℕ) where
  -- one member more
  pub row_more : (n : ℕ) → row_entries f k r a (n + 1) ≡ row_entries f k r a n ++ entry_if (f ((a + n) % 16)) k r ((a + n) % 16)
  unfolding row_entries
  row_more n = rw (add-one n) refl

  pub row-none : row_entries f k r a 0 ≡ []
  unfolding row_entries
  row-none = refl

  row_up : (n m : ℕ) → n ≤ m → length (row_entries f k r a n) ≤ length (row_entries f k r a m)
  unfolding row_entries
  row_up n m h = grows-to (row_entries f k r a) (λ i. longer (row_entries f k r a i) (entry_if (f ((a + i) % 16)) k r ((a + i) % 16))) n m h

  pub row-length : (i : ℕ) → length (row_entries f k r a (i + 1)) ≡ length (row_entries f k r a i) + length (entry_if (f ((a + i) % 16)) k r ((a + i) % 16))
  row-length i = ap length (row_more i) ∙ length-append (row_entries f k r a i) (entry_if (f ((a + i) % 16)) k r ((a + i) % 16))

  -- there is room for one member more
  pub row_room : (i : ℕ) → i < 16 → length (row_entries f k r a i) + length (entry_if (f ((a + i) % 16)) k r ((a + i) % 16)) ≤ length (row_entries f k r a 16)
  row_room i h =
      let l = row_up (i + 1) 16 (omega arith) in
      omega (arith, row-length i)

module _ (f : ℕ → ℕ → Bool) (k a low : ℕ) where
  -- one round more
  pub rows_more : (n : ℕ) → rows_entries f k a low (n + 1) ≡ rows_entries f k a low n ++ row_entries (λ j. f j (low + 1 + n)) k (low + 1 + n) a 16
  unfolding rows_entries
  rows_more n = let e : low + suc n ≡ low + 1 + n = omega arith in rw (add-one n, e) refl

  pub rows_none : rows_entries f k a low 0 ≡ []
  unfolding rows_entries
  rows_none = refl

  rows-up : (n m : ℕ) → n ≤ m → length (rows_entries f k a low n) ≤ length (rows_entries f k a low m)
  unfolding rows_entries
  rows-up n m h = grows-to (rows_entries f k a low) (λ i. longer (rows_entries f k a low i) (row_entries (λ j. f j (low + suc i)) k (low + suc i) a 16)) n m h

  pub rows-length : (i : ℕ) → length (rows_entries f k a low (i + 1)) ≡ length (rows_entries f k a low i) + length (row_entries (λ j. f j (low + 1 + i)) k (low + 1 + i) a 16)
  rows-length i = ap length (rows_more i) ∙ length-append (rows_entries f k a low i) (row_entries (λ j. f j (low + 1 + i)) k (low + 1 + i) a 16)

  -- there is room for one round more
  pub rows-room : (i n : ℕ) → i < n
      → length (rows_entries f k a low i) + length (row_entries (λ j. f j (low + 1 + i)) k (low + 1 + i) a 16) ≤ length (rows_entries f k a low n)
  rows-room i n h =
      let u = rows-up (i + 1) n (omega arith) in
      omega (arith, rows-length i)
