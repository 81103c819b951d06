-- Folds, tests, sums and lists over the numbers below a bound: over none, and over one more.
use Rattle.std.proofs.Common.{◌≡◌, refl, sym, ◌∙◌, ap, ℕ, zero, suc, ◌+◌, Bool, true, false, ◌&&◌, ◌||◌, List, [], ◌∷◌, ◌++◌, map, fold, sum_by, add-one, add-zero, zero-add, arith}
use Rattle.std.specs.List.{list_all, list_any, range_with_len}
use Rattle.std.proofs.lemmas.List.Folds.{list_all-append, list_any-append}
use Rattle.std.proofs.lemmas.List.Sums.{fold-append, sum_by-append}
use Rattle.std.proofs.lemmas.List.FromFn.{map-range_with_len_more}
use Rattle.base.proofs.Words.{and_comm, or_comm}
use Rattle.base.specs.Folds.{all_to, any_to, fold_to, sum_to, tab}

range_more : (a n : ℕ) → range_with_len a (suc n) ≡ range_with_len a n ++ (a + n) ∷ []
range_more a zero = rw (add-zero a) refl
range_more a (suc n) = let e : a + 1 + n ≡ a + suc n = omega arith in rw (← e) (ap (λ (l : List ℕ). a ∷ l) (range_more (a + 1) n))

range_next : (n : ℕ) → range_with_len 0 (suc n) ≡ range_with_len 0 n ++ n ∷ []
range_next n = let e : 0 + n ≡ n = omega arith in rw e at (range_more 0 n)

pub all_none : (f : ℕ → Bool) → all_to f 0 ≡ true
unfolding all_to
all_none f = refl

pub all_next : (f : ℕ → Bool) (n : ℕ) → all_to f (suc n) ≡ (all_to f n && f n)
unfolding all_to
all_next f n = ap (list_all f) (range_next n) ∙ list_all-append f (range_with_len 0 n) (n ∷ []) ∙ rw (and_comm (f n) true) refl

pub any_none : (f : ℕ → Bool) → any_to f 0 ≡ false
unfolding any_to
any_none f = refl

pub any_next : (f : ℕ → Bool) (n : ℕ) → any_to f (suc n) ≡ (any_to f n || f n)
unfolding any_to
any_next f n = ap (list_any f) (range_next n) ∙ list_any-append f (range_with_len 0 n) (n ∷ []) ∙ rw (or_comm (f n) false) refl

pub fold_none : {A : Type 0} (f : ℕ → A → A) (a : A) → fold_to f 0 a ≡ a
unfolding fold_to
fold_none f a = refl

pub fold_next : {A : Type 0} (f : ℕ → A → A) (n : ℕ) (a : A) → fold_to f (suc n) a ≡ f n (fold_to f n a)
unfolding fold_to
fold_next f n a = ap (fold (λ u k. f k u) a) (range_next n) ∙ fold-append (λ u k. f k u) a (range_with_len 0 n) (n ∷ [])

pub sum_none : (f : ℕ → ℕ) → sum_to f 0 ≡ 0
unfolding sum_to
sum_none f = refl

pub sum_next : (f : ℕ → ℕ) (n : ℕ) → sum_to f (suc n) ≡ sum_to f n + f n
unfolding sum_to
sum_next f n = ap (sum_by f) (range_next n) ∙ sum_by-append f (range_with_len 0 n) (n ∷ []) ∙ ap (λ (x : ℕ). sum_by f (range_with_len 0 n) + x) (zero-add (f n))

pub tab_none : {A : Type 0} (f : ℕ → A) → tab f 0 ≡ []
unfolding tab
tab_none f = refl

pub tab_next : {A : Type 0} (f : ℕ → A) (n : ℕ) → tab f (suc n) ≡ tab f n ++ (f n ∷ [])
unfolding tab
tab_next f n = ap (λ (k : ℕ). map f (range_with_len 0 k)) (sym (add-one n)) ∙ map-range_with_len_more f 0 n n (omega arith)
