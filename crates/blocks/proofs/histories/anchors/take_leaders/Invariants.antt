use Rattle.std.proofs.Common.{◌-◌, ◌≤◌, ◌≡◌}
use Rattle.blocks.specs.Anchors.{take_from}
use Rattle.blocks.proofs.histories.anchors.take_leaders.Given as goal

-- taking from round r down gives what taking from the first round on gives
abbrev pub invariant-loop-r : goal.invariant-loop-r
invariant-loop-r l = let i = l.initial in
    (l.last ≤ l.r) × (l.r ≤ i.r) × (take_from l.table l.last (l.r - l.last) l.history l.leaders ≡ take_from l.table l.last (i.r - l.last) i.history i.leaders)

abbrev pub decreases-loop-r : goal.decreases-loop-r
decreases-loop-r l = l.r
