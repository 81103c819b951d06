use Rattle.std.proofs.Common.{◌+◌, ◌≤◌, ◌≡◌}
use Rattle.blocks.specs.Blocks.{count_after, blocks_after}
use Rattle.blocks.specs.Seen.{Seen}
use Rattle.blocks.proofs.making.add_blocks.Given as goal

-- the anchors of the first i rounds above the last block's have made their blocks
abbrev pub invariant-loop-i : goal.invariant-loop-i
invariant-loop-i l = (l.count ≤ l.last + l.i) × (l.count ≡ count_after l.leaders l.last l.i l.blocks)
    × (l.table ≡ blocks_after l.leaders l.last l.i l.blocks l.initial.table) × Seen l.table l.seen l.seen
