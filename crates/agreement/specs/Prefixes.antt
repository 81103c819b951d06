-- Prefixes of chains: what a chain was before it grew.
use Rattle.std.specs.Prelude.{if◌then◌else◌, [], ◌∷◌, ◌⊎◌, ℕ, suc, ◌+◌, ◌≤◌, ◌==◌, length, Option, Some, None}
use Rattle.agreement.specs.Rules.{Block, Chain, last}

infix 40 ◌≼◌
-- c is a prefix of d: d adds blocks to c, each at least two rounds above the one before
pub data ◌≼◌ {P : Type 0} (c : Chain P) : Chain P → Type 0 where
  same : c ≼ c
  grown : (b : Block P) {d : Chain P} → last d + 2 ≤ b.round → c ≼ d → c ≼ (b ∷ d)

-- one of two chains is a prefix of the other
abbrev pub Comparable : {P : Type 0} → Chain P → Chain P → Type 0
Comparable c d = (c ≼ d) ⊎ (d ≼ c)

-- the block of number n, the oldest being number 1
unfoldable pub block_numbered : {P : Type 0} → Chain P → ℕ → Option (Block P)
block_numbered [] n = None
block_numbered (b ∷ c) n = if n == suc (length c) then Some b else block_numbered c n
