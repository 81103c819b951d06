use Rattle.base.proofs.Words.{number}
use Rattle.prospects.specs.contracts.reaching.go_down.{WHOLE-type}
use Rattle.prospects.proofs.WalkLaws.{Walking}
use Rattle.prospects.proofs.reaching.go_down.Given as goal

abbrev pub invariant-loop-r : goal.invariant-loop-r
invariant-loop-r g l = Walking (WHOLE-type (number g.row.WHOLE)) l.table l.initial.reached.seen l.authors l.fn.top l.reached.seen l.reached.fresh l.r l.here

abbrev pub decreases-loop-r : goal.decreases-loop-r
decreases-loop-r g l = l.r
