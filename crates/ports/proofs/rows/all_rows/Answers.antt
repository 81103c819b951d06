use Rattle.std.proofs.Common.{arith}
use Rattle.ports.proofs.ExtentLaws.{told_below}
use Rattle.ports.proofs.rows.all_rows.Goals as goal

pub returns : goal.returns
returns c = told_below (rw (← c.low.view_is) at c.low-low.ensures.below) (omega arith) (omega arith) _ c.rows_on.ensures
