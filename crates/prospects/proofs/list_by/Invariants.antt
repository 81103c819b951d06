use Rattle.base.proofs.Words.{number}
use Rattle.prospects.specs.contracts.list_by.{WHOLE-type}
use Rattle.prospects.proofs.Stepping.{Stepping}
use Rattle.prospects.proofs.list_by.Given as goal

abbrev pub invariant-loop-i : goal.invariant-loop-i
invariant-loop-i g l = Stepping (WHOLE-type (number g.row.WHOLE)) l.fn.top l.table l.leaders l.fn.low l.blocks l.rounds l.initial.list l.list l.reached.seen l.reached.fresh l.listed.blocks l.listed.next l.i
