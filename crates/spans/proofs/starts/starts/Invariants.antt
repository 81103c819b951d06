use Rattle.std.proofs.Common.{◌≤◌}
use Rattle.spans.specs.Starts.{StartsTold}
use Rattle.spans.proofs.starts.starts.Given as goal

abbrev pub invariant-loop-i : goal.invariant-loop-i
invariant-loop-i l = let c = l.chain in (l.i ≤ l.to) × StartsTold c.settings.now c.table.now l.known l.i l.starts
