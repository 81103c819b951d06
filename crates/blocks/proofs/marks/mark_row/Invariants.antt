use Rattle.std.proofs.Common.{◌≡◌}
use Rattle.base.specs.Folds.{fold_to}
use Rattle.blocks.specs.Blocks.{mark_place}
use Rattle.blocks.proofs.marks.mark_row.Given as goal

abbrev pub invariant-loop-a : goal.invariant-loop-a
invariant-loop-a l = l.table ≡ fold_to (mark_place l.block l.authors l.round) l.a l.initial.table
