use Rattle.blocks.proofs.SeenLaws.{see}
use Rattle.std.proofs.Common.{◌≤◌, ◌≡◌}
use Rattle.blocks.specs.Blocks.{mark_history}
use Rattle.blocks.specs.Seen.{Seen}
use Rattle.blocks.proofs.marks.mark_history.Given as goal

-- marking from the set `here` of round r down gives what marking the whole history gives
abbrev pub invariant-loop-r : goal.invariant-loop-r
invariant-loop-r l = (l.r ≤ l.initial.r) × (mark_history l.block l.r l.here l.table ≡ mark_history l.block l.initial.r l.authors l.initial.table)
    × Seen l.table l.seen (see l.seen l.r l.here)

abbrev pub decreases-loop-r : goal.decreases-loop-r
decreases-loop-r l = l.r
