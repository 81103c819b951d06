use Rattle.std.proofs.Common.{◌≤◌}
use Rattle.store.specs.Table.{block_round}
use Rattle.extents.proofs.low.Given as goal

abbrev pub invariant-loop-round : goal.invariant-loop-round
invariant-loop-round l = l.round ≤ block_round l.chain.table.now l.block

abbrev pub decreases-loop-round : goal.decreases-loop-round
decreases-loop-round l = l.round
