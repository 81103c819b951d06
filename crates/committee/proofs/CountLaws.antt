-- A set as a number: the members of its lower and of its upper digits, and how many digits are 1.
use Rattle.std.proofs.Common.{◌≡◌, refl, sym, cond, ℕ, zero, suc, ◌+◌, ◌-◌, ◌/◌, ◌%◌, ◌*◌, ◌^◌, ◌<◌, arith, pow-suc, eqb, shr-shr}
use Rattle.base.proofs.Words.{ones, ones_in, ones_step, field, mod-mod-pow}
use Rattle.base.specs.Folds.{sum_to}
use Rattle.base.specs.Sets.{mem}
use Rattle.base.proofs.SetLaws.{mem-zero}
use Rattle.committee.specs.Positions.{count_below}
use Rattle.committee.proofs.PositionLaws.{count-split, count_same}

mem_mod : (j i s : ℕ) → mem (s % 2 ^ (j + 1 + i)) i ≡ mem s i
unfolding mem
mem_mod j i s = rw (field s (j + 1) i, mod-mod-pow (s / 2 ^ i) j 1) refl

-- those below n are in the rest by 2 ^ n
pub mem-rest : (n i s : ℕ) → i < n → mem (s % 2 ^ n) i ≡ mem s i
mem-rest n i s h = let e : n - i - 1 + 1 + i ≡ n = omega arith in rw e at (mem_mod (n - i - 1) i s)

-- the others in the quotient
pub mem_up : (n i s : ℕ) → mem (s / 2 ^ n) i ≡ mem s (n + i)
unfolding mem
mem_up n i s = rw (shr-shr s n i) refl

none-set : ones 0 ≡ count_below (mem 0) 0
unfolding ones ones_in count_below sum_to
none-set = refl

first : (s : ℕ) → count_below (mem s) 1 ≡ s % 2
unfolding count_below sum_to
first s = rw (mem-zero s) (go (s % 2) (omega arith))
  where
    go : (d : ℕ) → d < 2 → 0 + cond (eqb d 1) 1 0 ≡ d
    go zero h = refl
    go (suc zero) h = refl
    go (suc (suc d)) h = absurd (omega arith)

-- of a number below 2 ^ k so many digits are 1
pub ones_count : (k s : ℕ) → s < 2 ^ k → ones s ≡ count_below (mem s) k
ones_count zero s h = let e : s ≡ 0 = omega arith in rw e none-set
ones_count (suc k) s h =
    let l : s < 2 ^ k * 2 = rw pow-suc at h in
    let i = ones_count k (s / 2) (omega arith) in
    let j = count_same (λ i. mem s (1 + i)) (mem (s / 2)) k (λ i _. sym (mem_up 1 i s)) in
    let a = count-split (mem s) 1 k in
    let e : 1 + k ≡ suc k = omega arith in
    let u : count_below (mem s) (suc k) ≡ count_below (mem s) 1 + count_below (λ i. mem s (1 + i)) k = rw e at a in
    let b = first s in
    let c = ones_step s in
    omega arith
