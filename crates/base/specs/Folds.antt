-- Folds, tests, sums and lists over the numbers below a bound, in std's words: what its iterators over 0..n come to.
use Rattle.std.specs.Prelude.{Bool, List, ℕ, map, fold, sum_by}
use Rattle.std.specs.List.{list_all, list_any, range_with_len}

-- f applied for each number below n, rising
unfoldable pub fold_to : {A : Type 0} → (ℕ → A → A) → ℕ → A → A
fold_to f n a = fold (λ u k. f k u) a (range_with_len 0 n)

-- f holds at each number below n
unfoldable pub all_to : (ℕ → Bool) → ℕ → Bool
all_to f n = list_all f (range_with_len 0 n)

-- f holds at some number below n
unfoldable pub any_to : (ℕ → Bool) → ℕ → Bool
any_to f n = list_any f (range_with_len 0 n)

-- the sum of f at each number below n
unfoldable pub sum_to : (ℕ → ℕ) → ℕ → ℕ
sum_to f n = sum_by f (range_with_len 0 n)

-- the list of f at each number below n
unfoldable pub tab : {A : Type 0} → (ℕ → A) → ℕ → List A
tab f n = map f (range_with_len 0 n)
