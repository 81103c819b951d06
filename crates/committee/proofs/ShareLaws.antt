-- Laws of shares: to the nearest thousandth, an exact half to the even one, at most a thousand.
use Rattle.std.proofs.Common.{◌≡◌, refl, sym, Bool, true, false, cond, ℕ, zero, suc, ◌+◌, ◌*◌, ◌/◌, ◌%◌, ◌≤◌, ◌<◌, arith, mod-lt, mul-le-mul_left, ltb, ltb-true, ltb-false, le-ltb}
use Rattle.base.proofs.Words.{dec_lt, div-add-mod, lt_of_mul-lt-mul_left}
use Rattle.committee.specs.Shares.{even_neighbour, rounded, nearest, share_of, Near}

even-near : (q r n : ℕ) → 2 * r ≡ n → (d : ℕ) → d < 2 → Near (n * q + r) n (q + d)
even-near q r n e zero k = record { above = omega arith; below = omega arith }
even-near q r n e (suc zero) k = record { above = omega arith; below = omega arith }
even-near q r n e (suc (suc d)) k = absurd (omega arith)

rounded-near : (q r n : ℕ) → r < n → Near (n * q + r) n (rounded q r n)
unfolding rounded even_neighbour
rounded-near q r n h = go (ltb (2 * r) n) (ltb n (2 * r)) refl refl
  where
    go : (b c : Bool) → ltb (2 * r) n ≡ b → ltb n (2 * r) ≡ c → Near (n * q + r) n (cond b q (cond c (q + 1) (q + q % 2)))
    go true c e f = let l = ltb-true (2 * r) n e in record { above = omega arith; below = omega arith }
    go false true e f = let l = ltb-true n (2 * r) f in record { above = omega arith; below = omega arith }
    go false false e f = even-near q r n (omega (arith, ltb-false (2 * r) n e, ltb-false n (2 * r) f)) (q % 2) (omega arith)

-- the nearest: twice the distance to a / n is at most 1
pub nearest-near : (a n : ℕ) → 0 < n → Near a n (nearest a n)
unfolding nearest
nearest-near a n h = rw (div-add-mod a n) at (rounded-near (a / n) (a % n) n (mod-lt a h))

-- where a / n is an exact half, q and a half, the answer is even
pub half_even : (a q n : ℕ) → 0 < n → 2 * a ≡ 2 * (n * q) + n → nearest a n % 2 ≡ 0
unfolding nearest rounded even_neighbour
half_even a q n h e = go (a / n) (a % n) (mod-lt a h) (rw (div-add-mod a n) e)
  where
    go : (p r : ℕ) → r < n → 2 * (n * p + r) ≡ 2 * (n * q) + n → cond (ltb (2 * r) n) p (cond (ltb n (2 * r)) (p + 1) (p + p % 2)) % 2 ≡ 0
    go p r l k = by (dec_lt p q) (dec_lt q p)
      where
        by : Dec (p < q) → Dec (q < p) → cond (ltb (2 * r) n) p (cond (ltb n (2 * r)) (p + 1) (p + p % 2)) % 2 ≡ 0
        by (yes i) d = let m = mul-le-mul_left n i in absurd (omega arith)
        by (no i) (yes d) = let m = mul-le-mul_left n d in absurd (omega arith)
        by (no i) (no d) =
            let j : p ≡ q = omega arith in
            let m : n * p ≡ n * q = rw j refl in
            rw (le-ltb (2 * r) n (omega arith), le-ltb n (2 * r) (omega arith)) (omega arith)

pub nearest_le : (a n m : ℕ) → 0 < n → a ≤ n * m → nearest a n ≤ m
nearest_le a n m h l =
    let u : n * nearest a n < n * (m + 1) = omega (arith, (nearest-near a n h).above) in
    omega (arith, lt_of_mul-lt-mul_left n u)

-- a share is nearest to the true one, and at most a thousand thousandths
pub share-near : (w n : ℕ) → 0 < n → Near (1000 * w) n (share_of w n)
unfolding share_of
share-near w n h = nearest-near (1000 * w) n h

pub share_le : (w n : ℕ) → 0 < n → w ≤ n → share_of w n ≤ 1000
unfolding share_of
share_le w n h l = nearest_le (1000 * w) n 1000 h (omega arith)

pub ruleset share_bound = share_le

-- a number one above another, both near to a / n: an exact half lies between them
between : (a n s : ℕ) → Near a n s → Near a n (s + 1) → 2 * a ≡ 2 * (n * s) + n
between a n s x y = omega (arith, x.below, y.above)

near_le : (a n s t : ℕ) → 0 < n → Near a n s → Near a n t → s ≤ t + 1
near_le a n s t h x y =
    let u : n * s < n * (t + 2) = omega (arith, x.above, y.below) in
    omega (arith, lt_of_mul-lt-mul_left n u)

-- nothing else is near to a / n, and even where a / n is an exact half
pub nearest-only : (a n s : ℕ) → 0 < n → Near a n s → ((q : ℕ) → 2 * a ≡ 2 * (n * q) + n → s % 2 ≡ 0) → s ≡ nearest a n
nearest-only a n s h x e = go (nearest a n) (nearest-near a n h) (λ q. half_even a q n h)
  where
    go : (t : ℕ) → Near a n t → ((q : ℕ) → 2 * a ≡ 2 * (n * q) + n → t % 2 ≡ 0) → s ≡ t
    go t y f = by (dec_lt s t) (dec_lt t s)
      where
        by : Dec (s < t) → Dec (t < s) → s ≡ t
        by (yes i) d =
            let j : t ≡ s + 1 = omega (arith, near_le a n t s h y x) in
            let k : Near a n (s + 1) = rw (sym j) y in
            let m = between a n s x k in absurd (omega (arith, e s m, f s m))
        by (no i) (yes d) =
            let j : s ≡ t + 1 = omega (arith, near_le a n s t h x y) in
            let k : Near a n (t + 1) = rw (sym j) x in
            let m = between a n t y k in absurd (omega (arith, e t m, f t m))
        by (no i) (no d) = omega arith

-- where the true share is an exact half, the share is even
pub share-even : (w q n : ℕ) → 0 < n → 2 * (1000 * w) ≡ 2 * (n * q) + n → share_of w n % 2 ≡ 0
unfolding share_of
share-even w q n h e = half_even (1000 * w) q n h e

-- and nothing else is: near to the true share, and even where that is an exact half
pub share-only : (w n s : ℕ) → 0 < n → Near (1000 * w) n s → ((q : ℕ) → 2 * (1000 * w) ≡ 2 * (n * q) + n → s % 2 ≡ 0) → s ≡ share_of w n
unfolding share_of
share-only w n s h x e = nearest-only (1000 * w) n s h x e

-- what a share is, and nothing else
pub ruleset shares = (share-near, share-even, share-only, share_le)
