-- What is kept of a member between records.
use Rattle.std.specs.Prelude.{◌≡◌, Bool, List, ℕ, length}
use Rattle.state.specs.declared.State.{State}
use Rattle.state.specs.Cached.{Cached}
use Rattle.engine.specs.Steps.{SetInRange}
use Rattle.replies.specs.Records.{engine_of}
use Rattle.serving.specs.Lengths.{table_length}

-- the table is one of ceiling 64, what is cached beside the state is right, and its previous set a 16-bit number
pub record Kept (s : State) (t : List ℕ) (formed : Bool) (cache : List ℕ) : Type 0 where
  pub table : length t ≡ table_length
  pub cached : Cached s t formed cache
  pub in_range : SetInRange (engine_of s t)
