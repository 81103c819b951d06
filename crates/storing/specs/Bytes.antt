-- Words as bytes: four of each, the lowest first.
use Rattle.std.specs.Prelude.{List, [], ◌∷◌, ℕ, ◌+◌, ◌*◌, ◌<◌, slice_index}
use Rattle.std.specs.Int.{w32, to_le_bytes, from_le_bytes}
use Rattle.std.specs.List.{flat_map}
use Rattle.base.specs.Folds.{tab}

-- the bytes of words
unfoldable pub bytes_of : List ℕ → List ℕ
bytes_of w = flat_map (to_le_bytes w32) w

-- word k of bytes
unfoldable pub word_in : List ℕ → ℕ → ℕ
word_in b k = from_le_bytes w32
    (slice_index b (4 * k) ∷ slice_index b (4 * k + 1) ∷ slice_index b (4 * k + 2)
    ∷ slice_index b (4 * k + 3) ∷ [])

-- n words of bytes, from word k on
unfoldable pub words_in : List ℕ → ℕ → ℕ → List ℕ
words_in b k n = tab (λ i. word_in b (k + i)) n

-- numbers that are words of 32 bits
abbrev pub IsWords : List ℕ → Type 0
IsWords w = (k : ℕ) → slice_index w k < 4294967296

-- numbers that are bytes
abbrev pub IsBytes : List ℕ → Type 0
IsBytes b = (k : ℕ) → slice_index b k < 256
