-- Chains as they are listed: oldest block first, each with its round and its certificates in order.
use Rattle.std.specs.Prelude.{◌≡◌, List, [], ◌∷◌, ◌++◌, ℕ}
use Rattle.agreement.specs.Rules.{Block, Chain}

module _ {P : Type 0} (order : Block P → Chain P → List P) where
  unfoldable pub listing : Chain P → List (ℕ × List P)
  listing [] = []
  listing (b ∷ c) = listing c ++ ((b.round, order b c) ∷ [])

  -- d lists what c lists, and more
  abbrev pub Lists : Chain P → Chain P → Type 0
  Lists c d = (more : List (ℕ × List P)) × (listing d ≡ listing c ++ more)
