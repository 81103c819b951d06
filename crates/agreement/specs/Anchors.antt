-- The anchors that a member sees, and the votes for them.
use Rattle.std.specs.Prelude.{◌≡◌, Bool, ℕ, suc, Some}
use Rattle.agreement.specs.Rules.{Rules}
use Rattle.agreement.specs.View.{View, Knows}
use Rattle.agreement.specs.Dag.{vote}
use Rattle.agreement.specs.Quorum.{Outweighs}

module _ {R : Rules} (s : View R) where
  open R use {P, author, round, committee, leader}

  -- the member knows the committee of round r, and q is what it holds of that round's leader
  pub record Anchor (r : ℕ) (q : P) : Type 0 where
    pub aware : Knows s r
    pub lead : ℕ
    pub leads : leader (committee s.chain r) r ≡ Some lead
    pub held : s.dag lead r ≡ Some q

  -- who names q from the round above it
  abbrev pub votes : P → ℕ → Bool
  votes q v = vote R (author q) (s.dag v (suc (round q)))

  -- the votes for q weigh more than the bound
  pub record Elected (q : P) : Type 0 where
    pub aware : Knows s (suc (round q))
    pub more : Outweighs R (committee s.chain (suc (round q))) (votes q)
