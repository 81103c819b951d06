-- A commit as an engine computes it: the anchors that are taken, newest first, and the blocks that they make.
use Rattle.std.specs.Prelude.{Bool, false, not, ◌&&◌, ◌||◌, if◌then◌else◌, List, [], ◌∷◌, ℕ, zero, suc, ◌+◌, ◌-◌, Option, Some, None}
use Rattle.agreement.specs.Rules.{Block, Chain, last, Rules}
use Rattle.agreement.specs.View.{View}
use Rattle.agreement.specs.Dag.{is_held}
use Rattle.agreement.specs.Histories.{in_history}

-- is the place in a block of the chain?
unfoldable pub in_chain : {P : Type 0} → Chain P → ℕ → ℕ → Bool
in_chain [] a r = false
in_chain (b ∷ c) a r = is_held (b.holds a r) || in_chain c a r

module _ {R : Rules} (s : View R) where
  open R use {P, author, round, committee, leader}

  abbrev pub by_leader : ℕ → Option ℕ → Option P
  by_leader r None = None
  by_leader r (Some a) = s.dag a r

  -- the anchor of round r
  unfoldable pub anchor_at : ℕ → Option P
  anchor_at r = by_leader r (leader (committee s.chain r) r)

  -- the block of the anchor x on the chain c
  unfoldable pub block_of : P → Chain P → Block P
  block_of x c = record {
    round = round x;
    holds = λ a r. if in_history s x r a && not (in_chain c a r) then s.dag a r else None;
  }

  -- the blocks of the anchors, the first of them newest, on the chain
  unfoldable pub blocks_of : List P → Chain P
  blocks_of [] = s.chain
  blocks_of (x ∷ l) = block_of x (blocks_of l) ∷ blocks_of l

  -- the anchor q, if it is in the history of x, and what is taken below it; or what is taken below x
  abbrev pub choose : P → (P → List P) → Option P → List P
  choose x f None = f x
  choose x f (Some q) = if in_history s x (round q) (author q) then q ∷ f q else f x

  -- the anchors that are taken below x, from the n rounds above the last block
  unfoldable pub taken : ℕ → P → List P
  taken zero x = []
  taken (suc n) x = choose x (λ y. taken n y) (anchor_at (last s.chain + suc n))

  -- the chain after a commit of the anchor x
  unfoldable pub committed : P → Chain P
  committed x = blocks_of (x ∷ taken (round x - suc (last s.chain)) x)
