use Rattle.std.proofs.Common.{[], ◌-◌, ◌/◌}
use Rattle.chain_committees.specs.LinkRuns.{rows_over}
use Rattle.chain_committees.proofs.RunLaws.{AtRow}
use Rattle.spans.specs.Rows.{add_held, PutsHeld}
use Rattle.spans.proofs.block.put.Given as goal

-- what the rows below that of the place hold is put
abbrev pub invariant-loop-place : goal.invariant-loop-place
invariant-loop-place l = let t = l.walk.chain.table.now in
    AtRow t l.walk.next.now l.block l.end l.place × PutsHeld l.initial.list l.list l.fn.at l.to t l.block (rows_over (add_held t l.block) l.start.0 (l.place / 16 - 1) [])

abbrev pub decreases-loop-place : goal.decreases-loop-place
decreases-loop-place l = l.end - l.place
