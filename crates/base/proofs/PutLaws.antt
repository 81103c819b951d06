-- Laws of what is put into a list from a place on: the rest of the list stays as it was.
use Rattle.std.proofs.Common.{◌≡◌, refl, ◌∙◌, List, [], ◌∷◌, ◌++◌, ℕ, suc, ◌+◌, ◌≤◌, arith, add-zero, add-suc, suc-add, length, set, length-append}
use Rattle.base.proofs.Words.{sets}
use Rattle.base.specs.Puts.{Puts}

-- i of n rounds of a loop have put bytes, and the buffer kept its length
pub record Putting (t u : List ℕ) (at next : ℕ) (l : List ℕ) (m n i : ℕ) : Type 0 where
  pub so_far : i ≤ n
  pub kept : length u ≡ length t
  pub puts : Puts t u at next l m

-- more bytes after those
sets-append : (a t : List ℕ) (at : ℕ) (b : List ℕ) → sets (sets t at a) (at + length a) b ≡ sets t at (a ++ b)
sets-append [] t at b = rw (add-zero at) refl
sets-append (x ∷ a) t at b = rw (add-suc at (length a), ← suc-add at (length a)) (sets-append a (set t at x) (suc at) b)

module _ {t : List ℕ} {u : List ℕ} {v : List ℕ} {at : ℕ} {mid : ℕ} {next : ℕ} {a : List ℕ} {b : List ℕ} {m : ℕ} {n : ℕ} where
  pub puts_then : Puts t u at mid a m → Puts u v mid next b n → Puts t v at next (a ++ b) (m + n)
  puts_then p q =
      let la = p.room in
      let lb = q.room in
      record {
        bytes = q.bytes ∙ rw (p.bytes, p.past) (sets-append a t at b);
        past = rw (length-append a b) (omega (arith, p.past, q.past));
        room = rw (length-append a b) (omega arith);
      }

-- one byte more
pub puts-more : {t : List ℕ} {u : List ℕ} {at : ℕ} {next : ℕ} {l : List ℕ} {m : ℕ} (x : ℕ) → Puts t u at next l m → (k : ℕ) → length (l ++ (x ∷ [])) ≤ k → Puts t (set u next x) at (next + 1) (l ++ (x ∷ [])) k
puts-more {t} {u} {at} {next} {l} {m} x p k h =
    let q : Puts u (set u next x) next (next + 1) (x ∷ []) 1 = record { bytes = refl; past = refl; room = omega arith } in
    let r = puts_then p q in
    record { bytes = r.bytes; past = r.past; room = h }

-- a larger bound
pub puts-within : {t : List ℕ} {u : List ℕ} {at : ℕ} {next : ℕ} {l : List ℕ} {m : ℕ} (n : ℕ) → m ≤ n → Puts t u at next l m → Puts t u at next l n
puts-within n h p = let r = p.room in record { bytes = p.bytes; past = p.past; room = omega arith }

pub puts_as : {x : List ℕ} {y : List ℕ} {at : ℕ} {next : ℕ} {l : List ℕ} {m : ℕ} {k : List ℕ} {n : ℕ} → k ≡ l → m ≤ n → Puts x y at next l m → Puts x y at next k n
puts_as {n = n} e h p = rw e (puts-within n h p)

pub puts_none : {x : List ℕ} {at : ℕ} {l : List ℕ} {n : ℕ} → l ≡ [] → Puts x x at at l n
puts_none e = rw e (record { bytes = refl; past = omega arith; room = omega arith })
