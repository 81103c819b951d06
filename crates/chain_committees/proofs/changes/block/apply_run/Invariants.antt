use Rattle.std.proofs.Common.{◌≡◌, ◌+◌, ◌-◌, ◌*◌, ◌≤◌}
use Rattle.committee.specs.Totals.{total_in}
use Rattle.chain_committees.specs.BlockChanges.{record_change}
use Rattle.chain_committees.specs.LinkRuns.{run_over, run_end}
use Rattle.chain_committees.proofs.changes.block.apply_run.Given as goal

-- what is left of the run does what the whole run does, and ends where it ends
abbrev pub invariant-loop-i : goal.invariant-loop-i
invariant-loop-i l = let run = run_over (record_change l.table) l.next l.from l.end in
    (run (16 - l.i) l.q l.weights ≡ run 16 l.place l.initial.weights) × (run_end l.next l.end (16 - l.i) l.q ≡ run_end l.next l.end 16 l.place)
    × (total_in l.weights ≤ total_in l.initial.weights + l.i * 17179869180)
