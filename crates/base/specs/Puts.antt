-- Bytes or words put into a list from a place on: the rest of the list stays as it was.
use Rattle.std.specs.Prelude.{◌≡◌, List, ℕ, ◌+◌, ◌≤◌, length}
use Rattle.std.proofs.lemmas.List.Edits.{sets}

-- u is t with l, which is at most m long, from `at` on; next is past it
pub record Puts (t u : List ℕ) (at next : ℕ) (l : List ℕ) (m : ℕ) : Type 0 where
  pub bytes : u ≡ sets t at l
  pub past : next ≡ at + length l
  pub room : length l ≤ m
