use Rattle.std.proofs.Common.{refl, arith}
use Rattle.prospects.proofs.Stepping.{steps_begin, steps_ready, steps_more}
use Rattle.prospects.proofs.list_by.Goals as goal

pub loop-i-init : goal.loop-i-init
loop-i-init g c = steps_begin _ _ _ _ _ _ _ _ _ c.requires.whole (omega arith) refl

pub list_step-listed-requires : goal.list_step-listed-requires
list_step-listed-requires g c = rw c.low.view_is (steps_ready c.loop-i.invariant c.requires.ready (omega arith) c.requires.whole (omega arith))

pub loop-i-preserved : goal.loop-i-preserved
loop-i-preserved g c = let y = c.list_step-listed in
    steps_more c.loop-i.invariant (omega arith) y.auto.list (rw c.low.view_is at y.ensures)
