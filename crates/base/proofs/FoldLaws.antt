-- Laws of folds and lists over the numbers below a bound.
use Rattle.std.proofs.Common.{◌≡◌, refl, ap, sym, ◌∙◌, List, [], ◌∷◌, ◌++◌, ℕ, zero, suc, ◌+◌, ◌<◌, ◌≤◌, arith, add-one, length, get_or, length-append}
use Rattle.base.proofs.Words.{ℕ_discrete, get_or-append, get_or-append_seam}
use Rattle.base.specs.Folds.{fold_to, tab}
use Rattle.std.proofs.lemmas.List.FromFn.{fill_by_all}
use Rattle.base.proofs.Ranges.{fold_none, fold_next, tab_none, tab_next}

-- one more turn of a fold
pub fold_more : {A : Type 0} (f : ℕ → A → A) (n : ℕ) (a : A) → fold_to f (n + 1) a ≡ f n (fold_to f n a)
fold_more f n a = rw (add-one n) (fold_next f n a)

-- what each turn keeps the fold keeps
pub fold_kept : {A : Type 0} {B : Type 0} (g : A → B) (f : ℕ → A → A) → ((i : ℕ) (a : A) → g (f i a) ≡ g a) → (n : ℕ) (a : A) → g (fold_to f n a) ≡ g a
fold_kept g f k zero a = ap g (fold_none f a)
fold_kept g f k (suc n) a = ap g (fold_next f n a) ∙ k n (fold_to f n a) ∙ fold_kept g f k n a

-- folds whose turns agree below n agree
pub fold_same : {A : Type 0} (f g : ℕ → A → A) (n : ℕ) (a : A) → ((i : ℕ) (x : A) → i < n → f i x ≡ g i x) → fold_to f n a ≡ fold_to g n a
fold_same f g zero a e = fold_none f a ∙ sym (fold_none g a)
fold_same f g (suc n) a e = fold_next f n a ∙ ap (f n) (fold_same f g n a (λ i x h. e i x (omega arith))) ∙ e n (fold_to g n a) (omega arith) ∙ sym (fold_next g n a)

pub fold_to_none : {A : Type 0} (f : ℕ → A → A) (x : A) → fold_to f 0 x ≡ x
fold_to_none f x = fold_none f x

-- the turns from z on change nothing
pub fold_high : {A : Type 0} (f : ℕ → A → A) (n z : ℕ) (x : A) → z ≤ n → ((i : ℕ) (y : A) → z ≤ i → i < n → f i y ≡ y) → fold_to f n x ≡ fold_to f z x
fold_high f zero z x h high = let e : z ≡ 0 = omega arith in rw e refl
fold_high f (suc n) z x h high = fold_next f n x ∙ go (ℕ_discrete z (suc n)) (λ l. fold_high f n z x l (λ i y b c. high i y b (omega arith)))
  where
    go : Dec (z ≡ suc n) → (z ≤ n → fold_to f n x ≡ fold_to f z x) → f n (fold_to f n x) ≡ fold_to f z x
    go (yes p) k = rw p (sym (fold_next f n x))
    go (no p) k = high n (fold_to f n x) (omega arith) (omega arith) ∙ k (omega arith)

-- c turns more
pub fold_join : {A : Type 0} (f : ℕ → A → A) (a c : ℕ) (x : A) → fold_to f (a + c) x ≡ fold_to (λ i. f (a + i)) c (fold_to f a x)
fold_join f a zero x = let e : a + 0 ≡ a = omega arith in rw e (sym (fold_none (λ i. f (a + i)) (fold_to f a x)))
fold_join f a (suc c) x =
    let e : a + suc c ≡ suc (a + c) = omega arith in
    rw e (fold_next f (a + c) x ∙ ap (f (a + c)) (fold_join f a c x) ∙ sym (fold_next (λ i. f (a + i)) c (fold_to f a x)))

pub length-tab : {A : Type 0} (f : ℕ → A) (n : ℕ) → length (tab f n) ≡ n
length-tab f zero = rw (tab_none f) refl
length-tab f (suc n) = let h = length-tab f n in simp (tab_next f n, length-append, h) (add-one n)

pub get_d_tab : {A : Type 0} (f : ℕ → A) (n i : ℕ) (d : A) → i < n → get_or (tab f n) i d ≡ f i
get_d_tab f zero i d h = absurd (omega arith)
get_d_tab f (suc n) i d h = rw (tab_next f n) (go (ℕ_discrete i n) (λ l. get_d_tab f n i d l))
  where
    go : Dec (i ≡ n) → (i < n → get_or (tab f n) i d ≡ f i) → get_or (tab f n ++ (f n ∷ [])) i d ≡ f i
    go (yes q) k = rw q (ap (λ (k : ℕ). get_or (tab f n ++ (f n ∷ [])) k d) (sym (length-tab f n)) ∙ get_or-append_seam (tab f n) (f n) [] d)
    go (no q) k = get_or-append (tab f n) (f n ∷ []) d i (let l = length-tab f n in omega arith) ∙ k (omega arith)

-- lists of functions that agree below n agree
pub tab-same : {A : Type 0} (f g : ℕ → A) (n : ℕ) → ((i : ℕ) → i < n → f i ≡ g i) → tab f n ≡ tab g n
tab-same f g zero e = tab_none f ∙ sym (tab_none g)
tab-same f g (suc n) e = rw (tab_next f n, tab_next g n, tab-same f g n (λ i h. e i (omega arith)), e n (omega arith))

-- the first of the list, and the rest
pub tab-first : {A : Type 0} (f : ℕ → A) (n : ℕ) → tab f (suc n) ≡ f 0 ∷ tab (λ k. f (suc k)) n
tab-first f zero = rw (tab_next f 0, tab_none f, tab_none (λ k. f (suc k))) refl
tab-first {A} f (suc n) = tab_next f (suc n) ∙ ap (λ (l : List A). l ++ (f (suc n) ∷ [])) (tab-first f n) ∙ ap (λ (l : List A). f 0 ∷ l) (sym (tab_next (λ k. f (suc k)) n))

-- a list is that of its elements
pub tab_get : {A : Type 0} (l : List A) (n : ℕ) (d : A) → length l ≡ n → l ≡ tab (λ i. get_or l i d) n
unfolding tab
tab_get l n d h = fill_by_all (λ i. get_or l i d) l n d h (λ k lt. refl)
