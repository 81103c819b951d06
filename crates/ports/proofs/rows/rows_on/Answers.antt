use Rattle.std.proofs.Common.{arith}
use Rattle.ports.proofs.ExtentLaws.{told_above}
use Rattle.ports.proofs.rows.rows_on.Goals as goal

pub returns : goal.returns
returns c = told_above c.top-top.ensures.above (omega arith) (omega (arith, c.top-top.ensures.to)) _ _ c.from_row.ensures
