-- Laws of rows of entries: by what the tests tell, and where they tell nothing.
use Rattle.std.proofs.Common.{◌≡◌, refl, sym, ap, ◌∙◌, Bool, false, [], ◌++◌, append_assoc, append-nil, ℕ, zero, suc, ◌+◌, ◌-◌, ◌%◌, ◌<◌, ◌≤◌, arith}
use Rattle.prospects.specs.Entries.{entry_if, row_entries, rows_entries}

-- tests that agree at the members tell the same row
row_same : (f g : ℕ → Bool) (k r a n : ℕ) → ((i : ℕ) → i < 16 → f i ≡ g i) → row_entries f k r a n ≡ row_entries g k r a n
unfolding row_entries
row_same f g k r a zero e = refl
row_same f g k r a (suc n) e = rw (row_same f g k r a n e, e ((a + n) % 16) (omega arith)) refl

-- and, in each of the rounds, the same rows
pub rows_same : (f g : ℕ → ℕ → Bool) (k a low n : ℕ) → ((i q : ℕ) → i < 16 → low < q → q ≤ low + n → f i q ≡ g i q) → rows_entries f k a low n ≡ rows_entries g k a low n
unfolding rows_entries
rows_same f g k a low zero e = refl
rows_same f g k a low (suc n) e =
    let r = low + suc n in
    let one : row_entries (λ i. f i r) k r a 16 ≡ row_entries (λ i. g i r) k r a 16 = row_same (λ i. f i r) (λ i. g i r) k r a 16 (λ i h. e i r h (omega arith) (omega arith)) in
    rw (rows_same f g k a low n (λ i q h l m. e i q h l (omega arith)), one) refl

-- a row without members is empty
row-empty : (f : ℕ → Bool) (k r a n : ℕ) → ((i : ℕ) → i < 16 → f i ≡ false) → row_entries f k r a n ≡ []
unfolding row_entries entry_if
row-empty f k r a zero e = refl
row-empty f k r a (suc n) e = rw (row-empty f k r a n e, e ((a + n) % 16) (omega arith)) refl

module _ (f : ℕ → ℕ → Bool) (k a : ℕ) where
  -- and so are rows without members
  rows_empty : (low n : ℕ) → ((i q : ℕ) → i < 16 → low < q → q ≤ low + n → f i q ≡ false) → rows_entries f k a low n ≡ []
  unfolding rows_entries
  rows_empty low zero e = refl
  rows_empty low (suc n) e =
      let r = low + suc n in
      let one : row_entries (λ i. f i r) k r a 16 ≡ [] = row-empty (λ i. f i r) k r a 16 (λ i h. e i r h (omega arith) (omega arith)) in
      rw (rows_empty low n (λ i q h l m. e i q h l (omega arith)), one) refl

  -- the first p rounds, and the rest
  rows_join : (low p n : ℕ) → rows_entries f k a low (p + n) ≡ rows_entries f k a low p ++ rows_entries f k a (low + p) n
  unfolding rows_entries
  rows_join low p zero = let e : p + 0 ≡ p = omega arith in rw e (sym (append-nil (rows_entries f k a low p)))
  rows_join low p (suc n) =
      let e : p + suc n ≡ suc (p + n) = omega arith in
      let i : low + suc (p + n) ≡ low + p + suc n = omega arith in
      rw (e, rows_join low p n, i) (append_assoc (rows_entries f k a low p) (rows_entries f k a (low + p) n) (row_entries (λ j. f j (low + p + suc n)) k (low + p + suc n) a 16))

  -- empty rounds above r add nothing
  pub rows-to : (n r : ℕ) → r ≤ n → ((i q : ℕ) → i < 16 → r < q → q ≤ n → f i q ≡ false) → rows_entries f k a 0 n ≡ rows_entries f k a 0 r
  rows-to n r h e =
      let i : r + (n - r) ≡ n = omega arith in
      let z : 0 + r ≡ r = omega arith in
      sym (ap (rows_entries f k a 0) i) ∙ rows_join 0 r (n - r) ∙ rw (z, rows_empty r (n - r) (λ i q h l m. e i q h l (omega arith))) (append-nil (rows_entries f k a 0 r))

  -- nor do those up to low
  pub rows-from : (low n : ℕ) → ((i q : ℕ) → i < 16 → 0 < q → q ≤ low → f i q ≡ false) → rows_entries f k a 0 (low + n) ≡ rows_entries f k a low n
  rows-from low n e = let z : 0 + low ≡ low = omega arith in rows_join 0 low n ∙ rw (rows_empty 0 low (λ i q h l m. e i q h l (omega arith)), z) refl
