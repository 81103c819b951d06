-- The table of registers by numbers holds.
use Rattle.std.proofs.Common.{◌≡◌, refl, true}
use Rattle.committee.specs.Edges.{agree}
use Rattle.ports.specs.Uart.{values_at, after_read, after_write, reset_port}
use Rattle.ports.specs.Edges.{two, clear, latched, shows, reads, writes, cases}

pub edges : agree cases ≡ true
unfolding agree cases two clear latched shows reads writes values_at after_read after_write reset_port
edges = refl
