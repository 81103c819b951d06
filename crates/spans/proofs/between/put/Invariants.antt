use Rattle.std.proofs.Common.{[], ◌≤◌}
use Rattle.chain_committees.specs.LinkRuns.{rows_over}
use Rattle.spans.specs.Rows.{add_held, PutsHeld}
use Rattle.spans.proofs.between.put.Given as goal

-- what the rows up to that of round r hold is put
abbrev pub invariant-loop-r : goal.invariant-loop-r
invariant-loop-r l = let c = l.chain in
    (l.r ≤ c.settings.now.ceiling) × PutsHeld l.initial.list l.list l.fn.at l.to c.table.now l.block (rows_over (add_held c.table.now l.block) l.start.0 l.r [])
