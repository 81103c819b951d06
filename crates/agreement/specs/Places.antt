-- Writing at the place of a proposal, which is its author and round: certificates put there, endorsed marks set there.
use Rattle.std.specs.Prelude.{Bool, ◌&&◌, if◌then◌else◌, ℕ, ◌==◌, Option, Some}
use Rattle.agreement.specs.Rules.{Rules}

module _ (R : Rules) where
  open R use {P, author, round}

  -- is (a, r) the place of p?
  unfoldable pub is_place : P → ℕ → ℕ → Bool
  is_place p a r = a == author p && r == round p

  -- the certificates d, and p at its place
  unfoldable pub put : P → (ℕ → ℕ → Option P) → ℕ → ℕ → Option P
  put p d a r = if is_place p a r then Some p else d a r

  -- the marks e, and b at the place of p
  unfoldable pub mark : Bool → P → (ℕ → ℕ → Bool) → ℕ → ℕ → Bool
  mark b p e a r = if is_place p a r then b else e a r
