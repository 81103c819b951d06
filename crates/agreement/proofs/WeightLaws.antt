-- Laws of weights: a set and its outside, larger sets, and sets that meet.
use Rattle.std.proofs.Common.{◌≡◌, refl, sym, ◌∙◌, Bool, true, false, not, cond, ℕ, ◌+◌, ◌*◌, ◌≤◌, ◌<◌, arith}
use Rattle.base.proofs.Words.{false≢true}
use Rattle.base.proofs.SumLaws.{sum_same, sum_add, sum_at, sum_less, sum_mono}
use Rattle.agreement.specs.Weights.{weigh, total, outside}
use Rattle.agreement.specs.Quorum.{Common}

-- a set and its outside weigh the total together
pub weigh-split : (n : ℕ) (w : ℕ → ℕ) (S : ℕ → Bool) → weigh n w S + weigh n w (outside S) ≡ total n w
weigh-split n w S =
    sym (sum_add (λ i. cond (S i) (w i) 0) (λ i. cond (not (S i)) (w i) 0) n)
    ∙ sum_same (λ i. cond (S i) (w i) 0 + cond (not (S i)) (w i) 0) w n (λ i h. either (S i) (w i))
  where
    either : (b : Bool) (x : ℕ) → cond b x 0 + cond (not b) x 0 ≡ x
    either true x = omega arith
    either false x = omega arith

-- a larger set weighs no less
pub weigh_mono : (n : ℕ) (w : ℕ → ℕ) (S T : ℕ → Bool) → ((i : ℕ) → S i ≡ true → T i ≡ true) → weigh n w S ≤ weigh n w T
weigh_mono n w S T f = sum_mono (λ i. cond (S i) (w i) 0) (λ i. cond (T i) (w i) 0) n (λ i h. larger (S i) (T i) (w i) (f i))
  where
    larger : (s t : Bool) (x : ℕ) → (s ≡ true → t ≡ true) → cond s x 0 ≤ cond t x 0
    larger true true x g = omega arith
    larger true false x g = absurd (false≢true (g refl))
    larger false t x g = omega arith

-- a member with a weight makes the total positive
pub total_pos : (n : ℕ) (w : ℕ → ℕ) {i : ℕ} → i < n → 0 < w i → 0 < total n w
total_pos n w {i} h p = omega (arith, sum_at w n i h)

-- the set of all members
abbrev pub everyone : ℕ → Bool
everyone i = true

-- three sets that weigh more than twice the total have a common member
pub meet : (n : ℕ) (w : ℕ → ℕ) (S T C : ℕ → Bool) → 2 * total n w < weigh n w S + weigh n w T + weigh n w C → Common n S T C
meet n w S T C h = go x.0 x.1 (S x.0) (T x.0) (C x.0) refl refl refl x.2
  where
    s : ℕ → ℕ
    s i = cond (S i) (w i) 0

    t : ℕ → ℕ
    t i = cond (T i) (w i) 0

    c : ℕ → ℕ
    c i = cond (C i) (w i) 0

    x : (i : ℕ) × (i < n) × (w i + w i < s i + t i + c i)
    x = sum_less (λ i. w i + w i) (λ i. s i + t i + c i) n (omega (arith, sum_add w w n, sum_add (λ i. s i + t i) c n, sum_add s t n))

    at_most : (b : Bool) (y : ℕ) → cond b y 0 ≤ y
    at_most true y = omega arith
    at_most false y = omega arith

    go : (i : ℕ) → i < n → (a b d : Bool) → S i ≡ a → T i ≡ b → C i ≡ d → w i + w i < cond a (w i) 0 + cond b (w i) 0 + cond d (w i) 0 → Common n S T C
    go i l true true true ea eb ed k = record { who = i; below = l; first = ea; second = eb; third = ed }
    go i l true true false ea eb ed k = absurd (omega arith)
    go i l true false d ea eb ed k = absurd (omega (arith, at_most d (w i)))
    go i l false b d ea eb ed k = absurd (omega (arith, at_most b (w i), at_most d (w i)))
