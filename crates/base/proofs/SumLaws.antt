-- Laws of sums over the numbers below a bound.
use Rattle.std.proofs.Common.{◌≡◌, refl, sym, ap, ◌∙◌, cond, ◌≢◌, ℕ, zero, suc, ◌+◌, ◌*◌, ◌%◌, ◌<◌, ◌≤◌, arith, suc-mul, add-one, eqb, eq-eqb, ne_eqb}
use Rattle.base.proofs.Words.{ℕ_discrete, dec_lt}
use Rattle.base.specs.Folds.{sum_to}
use Rattle.base.proofs.Ranges.{sum_none, sum_next}

pub sum_more : (f : ℕ → ℕ) (n : ℕ) → sum_to f (n + 1) ≡ sum_to f n + f n
sum_more f n = rw (add-one n) (sum_next f n)

pub sum_same : (f g : ℕ → ℕ) (n : ℕ) → ((i : ℕ) → i < n → f i ≡ g i) → sum_to f n ≡ sum_to g n
sum_same f g zero e = sum_none f ∙ sym (sum_none g)
sum_same f g (suc n) e = rw (sum_next f n, sum_next g n, sum_same f g n (λ i h. e i (omega arith)), e n (omega arith)) refl

-- a sum without one part
pub sum_without : (f g : ℕ → ℕ) (n a : ℕ) → a < n → g a ≡ 0 → ((i : ℕ) → i ≢ a → g i ≡ f i) → sum_to g n + f a ≡ sum_to f n
sum_without f g zero a h z e = absurd (omega arith)
sum_without f g (suc n) a h z e = rw (sum_next f n, sum_next g n) (go (ℕ_discrete a n) (λ l. sum_without f g n a l z e))
  where
    go : Dec (a ≡ n) → (a < n → sum_to g n + f a ≡ sum_to f n) → sum_to g n + g n + f a ≡ sum_to f n + f n
    go (yes x) k =
        let s = sum_same g f n (λ i l. e i (λ y. omega arith)) in
        let y : g n ≡ 0 = rw (sym x) z in
        let p : f a ≡ f n = ap f x in
        omega arith
    go (no x) k = let s = k (omega arith) in let y = e n (λ q. x (sym q)) in omega arith

-- each at most b
pub sum_le : (f : ℕ → ℕ) (b n : ℕ) → ((i : ℕ) → i < n → f i ≤ b) → sum_to f n ≤ n * b
sum_le f b zero h = rw (sum_none f) (omega arith)
sum_le f b (suc n) h = let q = sum_next f n in let i = sum_le f b n (λ i l. h i (omega arith)) in let p = h n (omega arith) in simp suc-mul (omega arith)

-- the sum of sums
pub sum_add : (f g : ℕ → ℕ) (n : ℕ) → sum_to (λ i. f i + g i) n ≡ sum_to f n + sum_to g n
sum_add f g zero = rw (sum_none f, sum_none g, sum_none (λ i. f i + g i)) refl
sum_add f g (suc n) = let h = sum_add f g n in rw (sum_next f n, sum_next g n, sum_next (λ i. f i + g i) n) (omega arith)

-- each part is at most the sum
pub sum_at : (f : ℕ → ℕ) (n i : ℕ) → i < n → f i ≤ sum_to f n
sum_at f zero i h = absurd (omega arith)
sum_at f (suc n) i h = rw (sum_next f n) (go (ℕ_discrete i n) (λ l. sum_at f n i l))
  where
    go : Dec (i ≡ n) → (i < n → f i ≤ sum_to f n) → f i ≤ sum_to f n + f n
    go (yes e) k = rw e (omega arith)
    go (no e) k = let l = k (omega arith) in omega arith

-- a smaller sum has a smaller part
pub sum_less : (f g : ℕ → ℕ) (n : ℕ) → sum_to f n < sum_to g n → (i : ℕ) × (i < n) × (f i < g i)
sum_less f g zero h = let a = sum_none f in let b = sum_none g in absurd (omega arith)
sum_less f g (suc n) h = let a = sum_next f n in let b = sum_next g n in let h' : sum_to f n + f n < sum_to g n + g n = omega arith in go h' (dec_lt (f n) (g n)) (λ l. sum_less f g n l)
  where
    go : sum_to f n + f n < sum_to g n + g n → Dec (f n < g n) → (sum_to f n < sum_to g n → (i : ℕ) × (i < n) × (f i < g i)) → (i : ℕ) × (i < suc n) × (f i < g i)
    go h (yes l) k = (n, omega arith, l)
    go h (no l) k = let x = k (omega arith) in (x.0, omega (arith, x.1), x.2)

-- smaller parts make a smaller sum
pub sum_mono : (f g : ℕ → ℕ) (n : ℕ) → ((i : ℕ) → i < n → f i ≤ g i) → sum_to f n ≤ sum_to g n
sum_mono f g n h = go (dec_lt (sum_to g n) (sum_to f n))
  where
    go : Dec (sum_to g n < sum_to f n) → sum_to f n ≤ sum_to g n
    go (yes l) = let x = sum_less g f n l in absurd (omega (arith, h x.0 x.1, x.2))
    go (no l) = omega arith

pub sum_to_none : (n : ℕ) → sum_to (λ i. 0) n ≡ 0
sum_to_none zero = sum_none (λ i. 0)
sum_to_none (suc n) = let h = sum_to_none n in rw (sum_next (λ i. 0) n) (omega arith)

-- one part alone: none, or that part
pub sum_only : (f : ℕ → ℕ) (m n : ℕ) → (n ≤ m → sum_to (λ i. cond (eqb m i) (f i) 0) n ≡ 0) × (m < n → sum_to (λ i. cond (eqb m i) (f i) 0) n ≡ f m)
sum_only f m zero = (λ _. sum_none (λ i. cond (eqb m i) (f i) 0), λ l. absurd (omega arith))
sum_only f m (suc n) = rw (sum_next (λ i. cond (eqb m i) (f i) 0) n) (by (ℕ_discrete m n) (sum_only f m n))
  where
    by : Dec (m ≡ n) → (n ≤ m → sum_to (λ i. cond (eqb m i) (f i) 0) n ≡ 0) × (m < n → sum_to (λ i. cond (eqb m i) (f i) 0) n ≡ f m)
        → (suc n ≤ m → sum_to (λ i. cond (eqb m i) (f i) 0) n + cond (eqb m n) (f n) 0 ≡ 0) × (m < suc n → sum_to (λ i. cond (eqb m i) (f i) 0) n + cond (eqb m n) (f n) 0 ≡ f m)
    by (yes e) p = (λ l. absurd (omega arith), λ l. let z = p.0 (omega arith) in rw (eq-eqb m n e, z, e) (omega arith))
    by (no e) p = rw (ne_eqb m n e) (λ l. let z = p.0 (omega arith) in omega arith, λ l. let z = p.1 (omega arith) in omega arith)

-- so at most it
pub sum_one : (a m n : ℕ) → sum_to (λ i. cond (eqb m i) a 0) n ≤ a
sum_one a m n = go (dec_lt m n) (sum_only (λ i. a) m n)
  where
    go : Dec (m < n) → (n ≤ m → sum_to (λ i. cond (eqb m i) a 0) n ≡ 0) × (m < n → sum_to (λ i. cond (eqb m i) a 0) n ≡ a) → sum_to (λ i. cond (eqb m i) a 0) n ≤ a
    go (yes l) p = let e = p.1 l in omega arith
    go (no l) p = let e = p.0 (omega arith) in omega arith

-- a longer sum is no smaller
pub sum_up : (f : ℕ → ℕ) (i n : ℕ) → i ≤ n → sum_to f i ≤ sum_to f n
sum_up f i zero h = let e : i ≡ 0 = omega arith in rw e (omega arith)
sum_up f i (suc n) h = rw (sum_next f n) (go (ℕ_discrete i (suc n)) (λ l. sum_up f i n l))
  where
    go : Dec (i ≡ suc n) → (i ≤ n → sum_to f i ≤ sum_to f n) → sum_to f i ≤ sum_to f n + f n
    go (yes e) k = rw (e, sum_next f n) (omega arith)
    go (no e) k = let q = k (omega arith) in omega arith

-- rows before columns, or columns before rows
pub sum_swap : (f : ℕ → ℕ → ℕ) (m n : ℕ) → sum_to (λ k. sum_to (f k) n) m ≡ sum_to (λ r. sum_to (λ k. f k r) m) n
sum_swap f zero n = sum_none (λ k. sum_to (f k) n) ∙ sym (sum_same (λ r. sum_to (λ k. f k r) 0) (λ r. 0) n (λ r h. sum_none (λ k. f k r)) ∙ sum_to_none n)
sum_swap f (suc m) n = rw (sum_next (λ k. sum_to (f k) n) m, sum_swap f m n) (sym (sum_same (λ r. sum_to (λ k. f k r) (suc m)) (λ r. sum_to (λ k. f k r) m + f m r) n (λ r h. sum_next (λ k. f k r) m) ∙ sum_add (λ r. sum_to (λ k. f k r) m) (f m) n))

-- the sum from one further on: the first part less, one more at the end
sum_shift : (f : ℕ → ℕ) (n : ℕ) → f 0 + sum_to (λ i. f (suc i)) n ≡ sum_to f (suc n)
sum_shift f zero = rw (sum_next f 0, sum_none f, sum_none (λ i. f (suc i))) (omega arith)
sum_shift f (suc n) = let h = sum_shift f n in rw (sum_next f (suc n), sum_next (λ i. f (suc i)) n) (omega arith)

-- sixteen parts, from any one of them round
pub sum_turned : (f : ℕ → ℕ) (a : ℕ) → sum_to (λ i. f ((a + i) % 16)) 16 ≡ sum_to f 16
sum_turned f zero = sum_same (λ i. f ((0 + i) % 16)) f 16 (λ i h. ap f (omega arith))
sum_turned f (suc a) =
    let g : ℕ → ℕ = λ i. f ((a + i) % 16) in
    let p : sum_to (λ i. f ((suc a + i) % 16)) 16 ≡ sum_to (λ i. g (suc i)) 16 = sum_same (λ i. f ((suc a + i) % 16)) (λ i. g (suc i)) 16 (λ i h. ap f (omega arith)) in
    let q = sum_shift g 16 in
    let r = sum_more g 16 in
    let e : g 16 ≡ g 0 = ap f (omega arith) in
    let k = sum_turned f a in
    omega arith
