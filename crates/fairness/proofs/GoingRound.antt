-- Going round: after one is drawn from a guest everybody else comes before it, and where a guest is waiting nobody behind it is next.
use Rattle.std.proofs.Common.{◌≡◌, refl, sym, ◌∙◌, Bool, true, false, cond, true≢false, ◌≢◌, ℕ, zero, suc, ◌+◌, ◌-◌, ◌%◌, ◌<◌, ◌≤◌, arith, Some}
use Rattle.std.proofs.lemmas.Option.{same_Some, none-some}
use Rattle.base.proofs.Words.{dec_lt, ℕ_discrete}
use Rattle.queues.specs.Queues.{Queues, is_waiting, guest_at, first_from, next_guest}

-- going round from p, h comes before g
pub record Ahead (p h g : ℕ) : Type 0 where
  i : ℕ
  j : ℕ
  before : i < j
  round : j < 8
  there : (p + i) % 8 ≡ h
  after : (p + j) % 8 ≡ g

-- the next guest, d places on: those before have nothing waiting
record Next (q : Queues) (i n g : ℕ) : Type 0 where
  d : ℕ
  from : i ≤ d
  near : d < i + n
  is : guest_at q d ≡ g
  idle : (e : ℕ) → i ≤ e → e < d → is_waiting q (guest_at q e) ≡ false

first_next : (q : Queues) (i n g : ℕ) → first_from q i n ≡ Some g → Next q i n g
unfolding first_from
first_next q i zero g h = absurd (none-some g h)
first_next q i (suc n) g h = go (is_waiting q (guest_at q i)) refl h (λ k. first_next q (suc i) n g k)
  where
    go : (b : Bool) → is_waiting q (guest_at q i) ≡ b → cond b (Some (guest_at q i)) (first_from q (suc i) n) ≡ Some g → (first_from q (suc i) n ≡ Some g → Next q (suc i) n g) → Next q i (suc n) g
    go true e k f = record { d = i; from = omega arith; near = omega arith; is = same_Some _ g k; idle = λ e x y. absurd (omega arith) }
    go false e k f =
        let z = f k in
        record { d = z.d; from = omega (arith, z.from); near = omega (arith, z.near); is = z.is; idle = λ x l u. by x l z u (ℕ_discrete x i) }
      where
        by : (x : ℕ) → i ≤ x → (z : Next q (suc i) n g) → x < z.d → Dec (x ≡ i) → is_waiting q (guest_at q x) ≡ false
        by x l z u (yes r) = rw r e
        by x l z u (no r) = z.idle x (omega arith) u

-- after one drawn from g, everybody else comes before g
pub ahead-first : (g h : ℕ) → g < 8 → h < 8 → h ≢ g → Ahead (suc g) h g
ahead-first g h a b n = by (dec_lt g h)
  where
    by : Dec (g < h) → Ahead (suc g) h g
    by (yes l) = record { i = h - suc g; j = 7; before = omega arith; round = omega arith; there = omega arith; after = omega arith }
    by (no l) = let x : h < g = lower (ℕ_discrete h g) in record { i = h + 7 - g; j = 7; before = omega arith; round = omega arith; there = omega arith; after = omega arith }
      where
        lower : Dec (h ≡ g) → h < g
        lower (yes e) = absurd (n e)
        lower (no e) = omega arith

-- what stands e places on from p stands e - (d + 1) places on from the one after k, which is d places on
shift : (p d e k y : ℕ) → d < e → (p + d) % 8 ≡ k → (p + e) % 8 ≡ y → (suc k + (e - suc d)) % 8 ≡ y
shift p d e k y h a b = let c : (suc k + (e - suc d)) % 8 ≡ (p + e) % 8 = omega arith in c ∙ b

-- of eight in a row no two are the same guest
one_place : (p d e : ℕ) → d < 8 → e < 8 → (p + d) % 8 ≡ (p + e) % 8 → d ≡ e
one_place p d e a b h = omega arith

module _ (q : Queues) (h g : ℕ) (x : Ahead q.from h g) (w : is_waiting q h ≡ true) where
  -- where h waits, nobody behind it is next
  next-to : (k : ℕ) → (z : Next q 0 8 k) → z.d ≤ x.i
  next-to k z = by (dec_lt x.i z.d)
    where
      by : Dec (x.i < z.d) → z.d ≤ x.i
      by (yes l) = absurd (true≢false (sym w ∙ rw x.there at (z.idle x.i (omega arith) l)))
      by (no l) = omega arith

  -- so g is not
  pub not_behind : next_guest q ≡ Some g → ⊥
  not_behind e =
      let z = first_next q 0 8 g e in
      let l = next-to g z in
      let s = one_place q.from z.d x.j z.near x.round (z.is ∙ sym x.after) in
      omega (arith, x.before)

  -- and whoever is, h itself aside, leaves h before g
  pub still-ahead : (k : ℕ) → next_guest q ≡ Some k → k ≢ h → Ahead (suc k) h g
  still-ahead k e n =
      let z = first_next q 0 8 k e in
      let s = by z (next-to k z) (ℕ_discrete z.d x.i) in
      record {
        i = x.i - suc z.d;
        j = x.j - suc z.d;
        before = omega (arith, x.before);
        round = omega (arith, x.round);
        there = shift q.from z.d x.i k h s z.is x.there;
        after = shift q.from z.d x.j k g (omega (arith, x.before)) z.is x.after;
      }
    where
      by : (z : Next q 0 8 k) → z.d ≤ x.i → Dec (z.d ≡ x.i) → z.d < x.i
      by z l (yes r) = absurd (n (sym z.is ∙ rw r x.there))
      by z l (no r) = omega arith
