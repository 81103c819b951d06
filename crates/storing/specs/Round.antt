-- What is stored by one host and loaded by the next, and what a run is that hosts sign in.
use Rattle.std.specs.Prelude.{◌≡◌, List, ℕ, ◌<◌, ◌≤◌, length}
use Rattle.store.specs.Table.{used_length}
use Rattle.words.specs.Lengths.{state_length}
use Rattle.storing.specs.Bytes.{IsWords}
use Rattle.storing.specs.Stored.{ceiling_of}
use Rattle.storing.specs.Storing.{store_refusal}

-- the words w and t are stored into the bytes b, under the run's number
pub record IsStored (run : ℕ) (w t b : List ℕ) : Type 0 where
  pub state : IsWords w
  pub table : IsWords t
  pub run_fits : run < 18446744073709551616
  pub accepted : store_refusal w (length t) (length b) ≡ 0

-- there is room for them in the words u and v
pub record HasRoom (w u v : List ℕ) : Type 0 where
  pub state : state_length ≤ length u
  pub table : used_length (ceiling_of w) ≤ length v

-- the words w of a state and a run's number, as a host has them
pub record IsRun (w : List ℕ) (run : ℕ) : Type 0 where
  pub state : IsWords w
  pub long : state_length ≤ length w
  pub run_fits : run < 18446744073709551616
