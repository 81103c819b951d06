use Rattle.std.proofs.Common.{arith, ◌+◌}
use Rattle.chain_committees.proofs.changes.links.link_rows.Goals as goal

pub loop-i-preserved : goal.loop-i-preserved
loop-i-preserved c = λ a h. c.link_row.ensures a _ (omega arith) (c.loop-i.invariant (a + 16) (omega arith))
