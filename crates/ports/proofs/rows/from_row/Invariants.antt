use Rattle.std.proofs.Common.{◌*◌}
use Rattle.ports.specs.ByRows.{NoneMarked}
use Rattle.ports.proofs.rows.from_row.Given as goal

abbrev pub invariant-loop-round : goal.invariant-loop-round
invariant-loop-round l = NoneMarked l.table l.block (l.fn.from * 16) (l.round * 16)
