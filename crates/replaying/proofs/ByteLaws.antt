-- Laws of words as bytes: one word more behind those that were read.
use Rattle.std.proofs.Common.{◌≡◌, ℕ, zero, suc, ◌+◌, ◌<◌, ◌≤◌, ◌⊎◌, inl, inr, List, [], ◌∷◌, ◌++◌, sym, ◌∙◌, ap, append_assoc, take, drop, length, get_or, arith, lit<}
use Rattle.std.proofs.lemmas.Bool.{cases_lt}
use Rattle.std.proofs.lemmas.List.{get_or-append-add, get_or-take, get_or_past, length-take-le, take-append-drop}
use Rattle.std.proofs.lemmas.Nat.{le_bytes_4}
use Rattle.std.proofs.lemmas.Grind.{flat_map-append}
use Rattle.std.specs.Int.{w32, to_le_bytes, from_le_bytes}
use Rattle.replaying.specs.Replays.{IsWords, bytes_of}

-- the first four of bytes are bytes
fits_four : (b w rest : List ℕ) → ((i : ℕ) → get_or b i 0 < 256) → b ≡ w ++ rest → 4 ≤ length rest → (i : ℕ) → get_or (take 4 rest) i 0 < 256
fits_four b w rest f h l i = go (cases_lt i 4)
  where
    go : (i < 4) ⊎ (4 ≤ i) → get_or (take 4 rest) i 0 < 256
    go (inl a) = rw (get_or-take 4 rest i 0 a, sym (get_or-append-add w rest i 0), sym h) (f (length w + i))
    go (inr a) = rw (get_or_past (take 4 rest) i 0 (omega (arith, a, length-take-le 4 rest l))) (lit< tt)

pub words_more : (b w rest four behind : List ℕ) (x : ℕ) → ((i : ℕ) → get_or b i 0 < 256) → b ≡ bytes_of w ++ rest → 4 ≤ length rest → four ≡ take 4 rest → behind ≡ drop 4 rest → x ≡ from_le_bytes w32 four → b ≡ bytes_of (w ++ x ∷ []) ++ behind
words_more b w rest four behind x f h l p q e =
    let k : to_le_bytes w32 x ≡ take 4 rest = le_bytes_4 (take 4 rest) x (length-take-le 4 rest l) (fits_four b (bytes_of w) rest f h l) (rw (sym p) e) in
    rw (flat_map-append (to_le_bytes w32) w (x ∷ []), k, q)
    (h ∙ ap (λ (z : List ℕ). bytes_of w ++ z) (sym (take-append-drop 4 rest)) ∙ sym (append_assoc (bytes_of w) (take 4 rest) (drop 4 rest)))

pub fit_more : (w : List ℕ) (x : ℕ) → IsWords w → x < 4294967296 → IsWords (w ++ x ∷ [])
fit_more [] x f b zero = b
fit_more [] x f b (suc k) = lit< tt
fit_more (y ∷ w) x f b zero = f 0
fit_more (y ∷ w) x f b (suc k) = fit_more w x (λ j. f (suc j)) b k
