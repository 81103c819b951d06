-- Laws of prefixes of chains: what a chain was before it grew.
use Rattle.std.proofs.Common.{◌≡◌, refl, Bool, true, false, cond, [], ◌∷◌, ℕ, suc, ◌≤◌, arith, eqb, length, eqb-true, ne_eqb, Some}
use Rattle.std.proofs.lemmas.Option.{none-some}
use Rattle.agreement.specs.Rules.{Block, Chain}
use Rattle.agreement.specs.Prefixes.{◌≼◌, same, grown, block_numbered}

pub ≼_trans : {P : Type 0} {c d e : Chain P} → c ≼ d → d ≼ e → c ≼ e
≼_trans h same = h
≼_trans h (grown b l k) = grown b l (≼_trans h k)

≼-length : {P : Type 0} {c d : Chain P} → c ≼ d → length c ≤ length d
≼-length same = omega arith
≼-length (grown b l h) = omega (arith, ≼-length h)

block-number : {P : Type 0} (c : Chain P) (n : ℕ) {b : Block P} → block_numbered c n ≡ Some b → n ≤ length c
unfolding block_numbered
block-number [] n {b} h = absurd (none-some b h)
block-number (a ∷ c) n {b} h = go (eqb n (suc (length c))) refl h (λ k. block-number c n k)
  where
    go : (t : Bool) → eqb n (suc (length c)) ≡ t → cond t (Some a) (block_numbered c n) ≡ Some b → (block_numbered c n ≡ Some b → n ≤ length c) → n ≤ suc (length c)
    go true e k f = omega (arith, eqb-true n (suc (length c)) e)
    go false e k f = omega (arith, f k)

-- a block once made stays, with its number, its round and its certificates
pub block-stays : {P : Type 0} {c d : Chain P} → c ≼ d → (n : ℕ) {b : Block P} → block_numbered c n ≡ Some b → block_numbered d n ≡ Some b
unfolding block_numbered
block-stays same n h = h
block-stays {c = c} (grown a {d = d} l k) n h =
    let low : n ≤ length c = block-number c n h in
    let long = ≼-length k in
    rw (ne_eqb n (suc (length d)) (λ e. absurd (omega arith))) (block-stays k n h)
