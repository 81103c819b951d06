-- The rules as plain data: proposals, committees, leaders, fault bound. They mean something for any chain, so no law is asked here.
use Rattle.std.specs.Prelude.{Bool, List, [], ◌∷◌, ℕ, Option}

-- a block: the round of its anchor, and its certificates by author and round
pub record Block (P : Type 0) : Type 0 where
  pub round : ℕ
  pub holds : ℕ → ℕ → Option P

-- a chain, newest block first
abbrev pub Chain : Type 0 → Type 0
Chain P = List (Block P)

-- the round of the newest block, 0 for none
abbrev pub last : {P : Type 0} → Chain P → ℕ
last [] = 0
last (b ∷ c) = b.round

pub record Rules : Type 1 where
  -- how many members there are; a member is a number below
  pub size : ℕ
  -- proposals; two certificates are the same when their proposals are, whoever endorsed
  pub P : Type 0
  pub author : P → ℕ
  pub round : P → ℕ
  -- whom a proposal names in its previous set
  pub names : P → ℕ → Bool
  -- the fault bound of a committee, which is the weight of each member, 0 for a non-member
  pub bound : (ℕ → ℕ) → ℕ
  -- the rounds whose committee a chain tells, and that committee
  pub known : Chain P → ℕ → Bool
  pub committee : Chain P → ℕ → ℕ → ℕ
  -- the leader of a round, by its committee
  pub leader : (ℕ → ℕ) → ℕ → Option ℕ
