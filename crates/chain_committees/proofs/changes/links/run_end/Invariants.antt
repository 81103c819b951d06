use Rattle.std.proofs.Common.{◌≡◌, ◌-◌}
use Rattle.chain_committees.specs.LinkRuns.{run_end}
use Rattle.chain_committees.proofs.changes.links.run_end.Given as goal

abbrev pub invariant-loop-i : goal.invariant-loop-i
invariant-loop-i l = run_end l.next l.end (16 - l.i) l.q ≡ run_end l.next l.end 16 l.place
