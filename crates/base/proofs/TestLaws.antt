-- Laws of tests over the numbers below a bound.
use Rattle.std.proofs.Common.{◌≡◌, refl, sym, ◌∙◌, Bool, true, false, not, ◌&&◌, ◌||◌, true≢false, le_refl, ℕ, zero, suc, ◌<◌, ◌≤◌, arith}
use Rattle.base.proofs.Words.{and_comm, or-true, false≢true, ℕ_discrete}
use Rattle.base.proofs.Bools.{both}
use Rattle.base.specs.Folds.{all_to, any_to}
use Rattle.base.proofs.Ranges.{all_none, all_next, any_none, any_next}

-- where all hold, each does
pub all-at : (f : ℕ → Bool) (n i : ℕ) → i < n → all_to f n ≡ true → f i ≡ true
all-at f zero i h e = absurd (omega arith)
all-at f (suc n) i h e = go (ℕ_discrete i n) (both (all_to f n) (f n) (sym (all_next f n) ∙ e)) (λ l. all-at f n i l)
  where
    go : Dec (i ≡ n) → (all_to f n ≡ true) × (f n ≡ true) → (i < n → all_to f n ≡ true → f i ≡ true) → f i ≡ true
    go (yes q) p k = rw q p.1
    go (no q) p k = k (omega arith) p.0

-- where each holds, all do
pub all_hold : (f : ℕ → Bool) (n : ℕ) → ((i : ℕ) → i < n → f i ≡ true) → all_to f n ≡ true
all_hold f zero h = all_none f
all_hold f (suc n) h = rw (all_next f n, all_hold f n (λ i l. h i (omega arith)), h n (omega arith)) refl

-- tests that agree below n
pub all_same : (f g : ℕ → Bool) (n : ℕ) → ((i : ℕ) → i < n → f i ≡ g i) → all_to f n ≡ all_to g n
all_same f g zero e = all_none f ∙ sym (all_none g)
all_same f g (suc n) e = rw (all_next f n, all_next g n, all_same f g n (λ i h. e i (omega arith)), e n (omega arith)) refl

-- those from z on hold
pub all-high : (f : ℕ → Bool) (n z : ℕ) → z ≤ n → ((i : ℕ) → z ≤ i → f i ≡ true) → all_to f n ≡ all_to f z
all-high f zero z h high = let e : z ≡ 0 = omega arith in rw e refl
all-high f (suc n) z h high = all_next f n ∙ go (ℕ_discrete z (suc n)) (λ l. all-high f n z l high)
  where
    go : Dec (z ≡ suc n) → (z ≤ n → all_to f n ≡ all_to f z) → (all_to f n && f n) ≡ all_to f z
    go (yes p) k = rw p (sym (all_next f n))
    go (no p) k = rw (high n (omega arith), and_comm (all_to f n) true) (k (omega arith))

-- some holds exactly where not all fail
pub any_all : (f : ℕ → Bool) (n : ℕ) → any_to f n ≡ not (all_to (λ i. not (f i)) n)
any_all f zero = rw (any_none f, all_none (λ i. not (f i))) refl
any_all f (suc n) = rw (any_next f n, all_next (λ i. not (f i)) n, any_all f n) (go (all_to (λ i. not (f i)) n) (f n))
  where
    go : (a b : Bool) → (not a || b) ≡ not (a && not b)
    go true true = refl
    go true false = refl
    go false b = refl

pub any_same : (f g : ℕ → Bool) (n : ℕ) → ((i : ℕ) → i < n → f i ≡ g i) → any_to f n ≡ any_to g n
any_same f g zero e = any_none f ∙ sym (any_none g)
any_same f g (suc n) e = rw (any_next f n, any_next g n, any_same f g n (λ i h. e i (omega arith)), e n (omega arith)) refl

-- the one for which a test holds
pub any_true : (f : ℕ → Bool) (n : ℕ) → any_to f n ≡ true → (i : ℕ) × (i < n) × (f i ≡ true)
any_true f zero h = absurd (false≢true (sym (any_none f) ∙ h))
any_true f (suc n) h = go (f n) refl (λ e. any_true f n e) (sym (any_next f n) ∙ h)
  where
    go : (b : Bool) → f n ≡ b → (any_to f n ≡ true → (i : ℕ) × (i < n) × (f i ≡ true)) → (any_to f n || b) ≡ true → (i : ℕ) × (i < suc n) × (f i ≡ true)
    go true e g k = (n, le_refl (suc n), e)
    go false e g k = let x = g (left (any_to f n) k) in (x.0, omega (arith, x.1), x.2)
      where
        left : (a : Bool) → (a || false) ≡ true → a ≡ true
        left true h = refl
        left false h = h

pub true_any : (f : ℕ → Bool) (n i : ℕ) → i < n → f i ≡ true → any_to f n ≡ true
true_any f zero i h e = absurd (omega arith)
true_any f (suc n) i h e = any_next f n ∙ go (ℕ_discrete i n) (λ l. true_any f n i l e)
  where
    go : Dec (i ≡ n) → (i < n → any_to f n ≡ true) → (any_to f n || f n) ≡ true
    go (yes k) g = rw (← k, e) (or-true (any_to f i))
    go (no k) g = rw (g (omega arith)) refl

-- where none holds, each fails
pub any_false : (f : ℕ → Bool) (n i : ℕ) → i < n → any_to f n ≡ false → f i ≡ false
any_false f n i h e = go (f i) refl
  where
    go : (b : Bool) → f i ≡ b → f i ≡ false
    go true q = absurd (true≢false (sym (true_any f n i h q) ∙ e))
    go false q = q
