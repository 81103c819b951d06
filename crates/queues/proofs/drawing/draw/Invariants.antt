use Rattle.queues.proofs.DrawnRowLaws.{Drawing}
use Rattle.queues.proofs.drawing.draw.Given as goal

abbrev pub invariant-loop-i : goal.invariant-loop-i
invariant-loop-i l = Drawing l.initial.table l.previous l.allowance l.i l.body l.table
