-- What is asked of a guest's serial port.
use Rattle.std.specs.Prelude.{ℕ, ◌<◌}

-- an access: a read of an offset, or a write of a byte there
pub data Access : Type 0 where
  read : ℕ → Access
  write : ℕ → ℕ → Access

abbrev pub offset_of : Access → ℕ
offset_of (read o) = o
offset_of (write o b) = o

-- of the port with a number: an access, or a reset
pub data PortCall : Type 0 where
  access : ℕ → Access → PortCall
  reset : ℕ → PortCall

abbrev pub port_of : PortCall → ℕ
port_of (access g a) = g
port_of (reset g) = g

-- what is written is a byte
abbrev pub AccessInRange : Access → Type 0
AccessInRange (read o) = Unit {0}
AccessInRange (write o b) = b < 256

abbrev pub PortInRange : PortCall → Type 0
PortInRange (access g a) = AccessInRange a
PortInRange (reset g) = Unit {0}
