use Rattle.std.proofs.Common.{◌≡◌}
use Rattle.base.specs.Folds.{fold_to}
use Rattle.blocks.specs.History.{named_by}
use Rattle.blocks.proofs.histories.named_in.Given as goal

abbrev pub invariant-loop-a : goal.invariant-loop-a
invariant-loop-a l = l.found ≡ fold_to (named_by l.table l.authors l.round) l.a 0
