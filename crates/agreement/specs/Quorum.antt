-- Quorums of a committee, and the faults that it tolerates.
use Rattle.std.specs.Prelude.{◌≡◌, Bool, true, ℕ, ◌+◌, ◌≤◌, ◌<◌}
use Rattle.agreement.specs.Weights.{weigh, total, outside}
use Rattle.agreement.specs.Rules.{Rules}

-- a member who is in three sets at once
pub record Common (n : ℕ) (S T C : ℕ → Bool) : Type 0 where
  pub who : ℕ
  pub below : who < n
  pub first : S who ≡ true
  pub second : T who ≡ true
  pub third : C who ≡ true

module _ (R : Rules) where
  open R use {size, bound}

  -- a set inside the committee that weighs at least the total less the bound
  pub record Quorum (w : ℕ → ℕ) (S : ℕ → Bool) : Type 0 where
    pub inside : (i : ℕ) → S i ≡ true → i < size
    pub weighs : (i : ℕ) → S i ≡ true → 0 < w i
    pub enough : total size w ≤ weigh size w S + bound w

  -- votes that weigh more than the bound
  abbrev pub Outweighs : (ℕ → ℕ) → (ℕ → Bool) → Type 0
  Outweighs w T = bound w < weigh size w T

  -- the faulty members, who are those outside `correct`, weigh at most the bound
  abbrev pub Tolerant : (ℕ → Bool) → (ℕ → ℕ) → Type 0
  Tolerant correct w = weigh size w (outside correct) ≤ bound w
