-- Weights of sets of members: a weighing is ℕ → ℕ, a set is ℕ → Bool, and only the members below n count.
use Rattle.std.specs.Prelude.{Bool, not, if◌then◌else◌, ℕ}
use Rattle.base.specs.Folds.{sum_to}

-- the weight of the set S
abbrev pub weigh : ℕ → (ℕ → ℕ) → (ℕ → Bool) → ℕ
weigh n w S = sum_to (λ i. if S i then w i else 0) n

-- the weight of all members
abbrev pub total : ℕ → (ℕ → ℕ) → ℕ
total n w = sum_to w n

-- the set of those outside S
abbrev pub outside : (ℕ → Bool) → ℕ → Bool
outside S i = not (S i)
