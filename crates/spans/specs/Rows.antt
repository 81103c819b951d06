-- What a block of a table holds, row by row. The place of member m and round r is number 16 r + m.
use Rattle.std.specs.Prelude.{List, [], ◌++◌, ℕ, ◌+◌, ◌*◌, ◌/◌, ◌%◌, ◌≤◌, length}
use Rattle.base.specs.Puts.{Puts}
use Rattle.terms.specs.Proposals.{Content}
use Rattle.terms.specs.declared.sheet.Settings.{Settings}
use Rattle.committee.specs.Changes.{at_most_one}
use Rattle.committee.specs.Chain.{holds_at}
use Rattle.chain_committees.specs.BlockChanges.{start_at}
use Rattle.chain_committees.specs.LinkRuns.{places_over, rows_over}
use Rattle.words.specs.Lengths.{held_length}
use Rattle.spans.specs.Spans.{block_words}

-- what block k holds at a place: one certificate or none
unfoldable pub place_held : List ℕ → ℕ → ℕ → List Content
place_held t k p = at_most_one (holds_at t k (p % 16) (p / 16))

-- after what it holds before
unfoldable pub add_held : List ℕ → ℕ → ℕ → List Content → List Content
add_held t k p l = l ++ place_held t k p

-- in the row of round r, from member a on, with 0 after 15
abbrev pub row_held : List ℕ → ℕ → ℕ → ℕ → List Content
row_held t k a r = places_over (add_held t k) a r []

-- what the block after the first k holds, each row from the leader of the block's round on
abbrev pub block_held : Settings → List ℕ → ℕ → List Content
block_held S t k = rows_over (add_held t (k + 1)) (start_at S t k) S.ceiling []

-- from a place of a list on there is room for the words of these certificates
abbrev pub HeldFits : List ℕ → ℕ → List Content → Type 0
HeldFits x at l = at + held_length * length l ≤ length x

-- certificates of block k are put into a list from a place on
abbrev pub PutsHeld : List ℕ → List ℕ → ℕ → ℕ → List ℕ → ℕ → List Content → Type 0
PutsHeld x y at to t k l = Puts x y at to (block_words t k l) (held_length * length l)
