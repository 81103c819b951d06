-- How many words rows of entries have: three for each place.
use Rattle.std.proofs.Common.{◌≡◌, refl, ◌∙◌, Bool, true, false, cond, ℕ, zero, suc, ◌+◌, ◌*◌, ◌%◌, ◌≤◌, arith, length, length-append}
use Rattle.base.specs.Folds.{sum_to}
use Rattle.base.proofs.Ranges.{sum_none, sum_next}
use Rattle.base.proofs.SumLaws.{sum_same, sum_le, sum_add, sum_to_none, sum_turned}
use Rattle.prospects.specs.Entries.{entry_if, row_entries, rows_entries}

-- the members that f tells of a row
abbrev pub row_count : (ℕ → Bool) → ℕ
row_count f = sum_to (λ i. cond (f i) 1 0) 16

-- the places that f tells of the rounds 1 to n
abbrev pub place_count : (ℕ → ℕ → Bool) → ℕ → ℕ
place_count f n = sum_to (λ q. row_count (λ i. f i (suc q))) n

entry_length : (b : Bool) (k r a : ℕ) → length (entry_if b k r a) ≡ 3 * cond b 1 0
unfolding entry_if
entry_length true k r a = refl
entry_length false k r a = refl

row-length : (f : ℕ → Bool) (k r a n : ℕ) → length (row_entries f k r a n) ≡ 3 * sum_to (λ i. cond (f ((a + i) % 16)) 1 0) n
unfolding row_entries
row-length f k r a zero = rw (sum_none (λ i. cond (f ((a + i) % 16)) 1 0)) refl
row-length f k r a (suc n) =
    let h = row-length f k r a n in
    let e = entry_length (f ((a + n) % 16)) k r ((a + n) % 16) in
    let s = sum_next (λ i. cond (f ((a + i) % 16)) 1 0) n in
    rw (length-append (row_entries f k r a n) (entry_if (f ((a + n) % 16)) k r ((a + n) % 16))) (omega arith)

pub rows-counted : (f : ℕ → ℕ → Bool) (k a n : ℕ) → length (rows_entries f k a 0 n) ≡ 3 * place_count f n
unfolding rows_entries
rows-counted f k a zero = rw (sum_none (λ q. row_count (λ i. f i (suc q)))) refl
rows-counted f k a (suc n) =
    let h = rows-counted f k a n in
    let i : 0 + suc n ≡ suc n = omega arith in
    let e = row-length (λ i. f i (suc n)) k (suc n) a 16 in
    let w = sum_turned (λ i. cond (f i (suc n)) 1 0) a in
    let s = sum_next (λ q. row_count (λ i. f i (suc q))) n in
    rw (i, length-append (rows_entries f k a 0 n) (row_entries (λ i. f i (suc n)) k (suc n) a 16)) (omega arith)

-- ---- places

-- no place
pub places-none : (n : ℕ) → place_count (λ i q. false) n ≡ 0
places-none n = sum_same (λ q. row_count (λ i. false)) (λ q. 0) n (λ q _. sum_to_none 16) ∙ sum_to_none n

-- those of f and those of g, where h has both and no place is in both
pub places-add : (f g h : ℕ → ℕ → Bool) (n : ℕ) → ((i q : ℕ) → cond (h i q) 1 0 ≡ cond (f i q) 1 0 + cond (g i q) 1 0) → place_count h n ≡ place_count f n + place_count g n
places-add f g h n e =
    sum_same (λ q. row_count (λ i. h i (suc q))) (λ q. row_count (λ i. f i (suc q)) + row_count (λ i. g i (suc q))) n (λ q _. row q)
    ∙ sum_add (λ q. row_count (λ i. f i (suc q))) (λ q. row_count (λ i. g i (suc q))) n
  where
    row : (q : ℕ) → row_count (λ i. h i (suc q)) ≡ row_count (λ i. f i (suc q)) + row_count (λ i. g i (suc q))
    row q =
        sum_same (λ i. cond (h i (suc q)) 1 0) (λ i. cond (f i (suc q)) 1 0 + cond (g i (suc q)) 1 0) 16 (λ i _. e i (suc q))
        ∙ sum_add (λ i. cond (f i (suc q)) 1 0) (λ i. cond (g i (suc q)) 1 0) 16

-- at most sixteen for each round
pub places-most : (f : ℕ → ℕ → Bool) (n : ℕ) → place_count f n ≤ n * 16
places-most f n = sum_le (λ q. row_count (λ i. f i (suc q))) 16 n (λ q _. let h = sum_le (λ i. cond (f i (suc q)) 1 0) 1 16 (λ i _. one (f i (suc q))) in omega arith)
  where
    one : (b : Bool) → cond b 1 0 ≤ 1
    one true = omega arith
    one false = omega arith
