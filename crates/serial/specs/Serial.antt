-- Accesses to guests' serial ports and their resets, on a state and its table: the number that refuses, what is read, and the table.
use Rattle.std.specs.Prelude.{not, List, [], ◌∷◌, ◌++◌, ℕ, nat_lt, get_or}
use Rattle.base.specs.Checks.{Checks, refusal}
use Rattle.ports.specs.Uart.{Port, values_at, after_read, after_write, reset_port}
use Rattle.ports.specs.Ports.{listing_of, port_in, put_port}
use Rattle.state.specs.declared.State.{State}
use Rattle.state.specs.WellFormed.{well_formed}
use Rattle.state.specs.Answers.{if_accepted}
use Rattle.serial.specs.Calls.{Access, read, write, offset_of, PortCall, access, reset, port_of}

-- 26 port above 7; 31 offset above 7: both before 1
abbrev pub access_checks : ℕ → ℕ → Checks
access_checks g o = (nat_lt 7 g, 26) ∷ (nat_lt 7 o, 31) ∷ []

abbrev pub reset_checks : ℕ → Checks
reset_checks g = (nat_lt 7 g, 26) ∷ []

abbrev pub early_checks : PortCall → Checks
early_checks (access g a) = access_checks g (offset_of a)
early_checks (reset g) = reset_checks g

module _ (s : State) (t : List ℕ) where
  -- then 1
  abbrev pub port_checks : PortCall → Checks
  port_checks x = early_checks x ++ ((not (well_formed s t), 1) ∷ [])

  unfoldable pub port_refusal : PortCall → ℕ
  port_refusal x = refusal (port_checks x)

  -- the listing of the chain, and the port with a number
  abbrev pub listing : List ℕ
  listing = listing_of s.settings t s.blocks

  abbrev pub port_at : ℕ → Port
  port_at g = port_in s.settings t s.blocks g

  -- what port g shows at offset o
  unfoldable pub register : ℕ → ℕ → ℕ
  register g o = get_or (values_at listing (port_at g)) o 0

  -- the port after it
  abbrev pub accessed : Port → Access → Port
  accessed p (read o) = after_read listing p o
  accessed p (write o b) = after_write p o b

  abbrev pub port_then : PortCall → Port
  port_then (access g a) = accessed (port_at g) a
  port_then (reset g) = reset_port

  -- the table with its words
  unfoldable pub ported_table : PortCall → List ℕ
  ported_table x = put_port s.settings t s.blocks (port_of x) (port_then x)

  -- the table after it: with that port's words where it is accepted, else as it was
  unfoldable pub port_table : PortCall → List ℕ
  port_table x = if_accepted (port_refusal x) (ported_table x) t
