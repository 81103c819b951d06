use Rattle.std.proofs.Common.{◌≡◌}
use Rattle.base.specs.Folds.{fold_to}
use Rattle.chain_committees.specs.BlockChanges.{slot_change}
use Rattle.chain_committees.proofs.changes.block.apply_record.Given as goal

abbrev pub invariant-loop-k : goal.invariant-loop-k
invariant-loop-k l = l.weights ≡ fold_to (slot_change l.table l.author.0 l.round) l.k l.initial.weights
