use Rattle.std.proofs.Common.{sym, arith}
use Rattle.queues.proofs.DrawnRowLaws.{drawing_end, drawing_all}
use Rattle.queues.proofs.drawing.draw.Goals as goal

pub returns-in_default : goal.returns-in_default
returns-in_default c = drawing_end c.loop-i.invariant (sym c.in_default.ensures)

pub returns : goal.returns
returns c = drawing_all c.loop-i.invariant (omega arith)
