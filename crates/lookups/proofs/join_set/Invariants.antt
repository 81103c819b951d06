use Rattle.std.proofs.Common.{◌≤◌}
use Rattle.lookups.proofs.join_set.Given as goal

abbrev pub invariant-loop-k : goal.invariant-loop-k
invariant-loop-k l = l.k ≤ 17
