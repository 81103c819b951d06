use Rattle.std.proofs.Common.{◌≤◌}
use Rattle.lookups.proofs.main.Given as goal

abbrev pub invariant-loop-upper : goal.invariant-loop-upper
invariant-loop-upper l = l.upper ≤ 256
