use Rattle.std.proofs.Common.{arith}
use Rattle.ports.proofs.ExtentLaws.{key_below}
use Rattle.ports.proofs.cursors.first_key.Goals as goal

pub returns : goal.returns
returns c = key_below (rw (← c.low.view_is) at c.low-low.ensures.below) (omega arith) (omega arith) _ _ c.next_key.ensures
