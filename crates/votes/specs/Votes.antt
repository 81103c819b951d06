-- The votes for an anchor, on the table.
use Rattle.std.specs.Prelude.{Bool, ◌&&◌, List, ℕ}
use Rattle.base.specs.Sets.{contains}
use Rattle.agreement.specs.Weights.{weigh}
use Rattle.store.specs.Table.{held_at, previous_at}
use Rattle.terms.specs.Ranges.{weight_in}
use Rattle.terms.specs.declared.sheet.Weight.{Weight}

-- i votes in round r for a: its certificate is held and names a
unfoldable pub votes_at : List ℕ → ℕ → ℕ → ℕ → Bool
votes_at t r a i = held_at t i r && contains (previous_at t i r) a

-- the weight of all votes of round r for a
unfoldable pub votes_for : List ℕ → List Weight → ℕ → ℕ → ℕ
votes_for t w r a = weigh 16 (weight_in w) (votes_at t r a)
