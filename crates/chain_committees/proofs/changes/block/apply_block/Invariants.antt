use Rattle.std.proofs.Common.{◌≡◌, ◌-◌, ◌/◌}
use Rattle.chain_committees.specs.BlockChanges.{place_change}
use Rattle.chain_committees.specs.LinkRuns.{rows_over}
use Rattle.chain_committees.proofs.RunLaws.{AtRow}
use Rattle.chain_committees.proofs.changes.block.apply_block.Given as goal

-- the rows below that of the place are done
abbrev pub invariant-loop-place : goal.invariant-loop-place
invariant-loop-place l = AtRow l.table l.next l.block l.end l.place × (l.weights ≡ rows_over (place_change l.table l.block) l.start.0 (l.place / 16 - 1) l.initial.weights)

abbrev pub decreases-loop-place : goal.decreases-loop-place
decreases-loop-place l = l.end - l.place
