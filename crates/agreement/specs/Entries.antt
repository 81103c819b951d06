-- Lists of calls that several members make, and what they lead to.
use Rattle.std.specs.Prelude.{if◌then◌else◌, List, [], ◌∷◌, ℕ, ◌==◌}

-- one call of one member
pub record Entry (Call : Type 0) : Type 0 where
  pub who : ℕ
  pub call : Call

module _ {State Call : Type 0} (after : ℕ → State → Call → State) (start : ℕ → State) where
  -- member i's state after a list of entries, newest first: each call gets what the member's last one left
  unfoldable pub states : List (Entry Call) → ℕ → State
  states [] i = start i
  states (e ∷ l) i = if i == e.who then after i (states l i) e.call else states l i
