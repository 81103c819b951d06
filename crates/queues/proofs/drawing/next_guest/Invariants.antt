use Rattle.queues.proofs.GuestLaws.{NoneBefore}
use Rattle.queues.proofs.drawing.next_guest.Given as goal

abbrev pub invariant-loop-i : goal.invariant-loop-i
invariant-loop-i l = NoneBefore l.table l.i
