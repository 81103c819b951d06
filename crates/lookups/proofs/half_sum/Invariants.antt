use Rattle.std.proofs.Common.{◌≤◌}
use Rattle.lookups.proofs.half_sum.Given as goal

abbrev pub invariant-loop-lower : goal.invariant-loop-lower
invariant-loop-lower l = l.lower ≤ 256
