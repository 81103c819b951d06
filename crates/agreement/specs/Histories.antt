-- Histories as an engine computes them: for each round, downwards, the set of authors reached.
use Rattle.std.specs.Prelude.{Bool, ◌&&◌, ℕ, zero, suc, ◌-◌, ◌==◌, nat_le}
use Rattle.base.specs.Folds.{any_to}
use Rattle.agreement.specs.Rules.{Rules}
use Rattle.agreement.specs.View.{View}
use Rattle.agreement.specs.Dag.{is_held, vote}

module _ {R : Rules} (s : View R) where
  open R use {size, P, author, round}

  -- the authors whose certificates of d rounds below x are in the history of x
  unfoldable pub level : P → ℕ → ℕ → Bool
  level x zero a = a == author x
  level x (suc d) a = is_held (s.dag a (round x - suc d))
      && any_to (λ i. level x d i && vote R a (s.dag i (round x - d))) size

  -- the authors whose certificates of round r are in the history of x
  unfoldable pub in_history : P → ℕ → ℕ → Bool
  in_history x r a = nat_le r (round x) && level x (round x - r) a
