-- Entries of a preview as words: block number, certificate round, author.
use Rattle.std.specs.Prelude.{Bool, if◌then◌else◌, List, [], ◌∷◌, ◌++◌, ℕ, zero, suc, ◌+◌, ◌-◌, ◌%◌, ◌<◌, ◌≤◌, length, get_or}
use Rattle.base.specs.Sets.{contains}

-- the entry of author a and round r, in block k
abbrev pub entry_words : ℕ → ℕ → ℕ → List ℕ
entry_words k r a = k ∷ r ∷ a ∷ []

-- if there is one
unfoldable pub entry_if : Bool → ℕ → ℕ → ℕ → List ℕ
entry_if b k r a = if b then entry_words k r a else []

-- those of round r whose authors f tells, by n members: numbers rise from that of a, with 0 after 15
unfoldable pub row_entries : (ℕ → Bool) → ℕ → ℕ → ℕ → ℕ → List ℕ
row_entries f k r a zero = []
row_entries f k r a (suc n) =
    row_entries f k r a n ++ entry_if (f ((a + n) % 16)) k r ((a + n) % 16)

-- those of the n rounds above low, by round, whose authors f tells for each round
unfoldable pub rows_entries : (ℕ → ℕ → Bool) → ℕ → ℕ → ℕ → ℕ → List ℕ
rows_entries f k a low zero = []
rows_entries f k a low (suc n) =
    rows_entries f k a low n ++ row_entries (λ i. f i (low + suc n)) k (low + suc n) a 16

-- a is in the set that l has for round q
abbrev pub in_sets : List ℕ → ℕ → ℕ → Bool
in_sets l a q = contains (get_or l q 0) a

-- the rounds above low up to top can be put into the list from a place on
pub record RowsFit (list : List ℕ) (at : ℕ) (l : List ℕ) (k low top a : ℕ) : Type 0 where
  pub start : a < 16
  pub upward : low ≤ top
  pub rounds : top ≤ 1024
  pub room : at + length (rows_entries (in_sets l) k a low (top - low)) ≤ length list
