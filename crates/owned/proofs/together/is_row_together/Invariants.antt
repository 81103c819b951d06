use Rattle.std.proofs.Common.{ℕ, ◌<◌, ◌≤◌}
use Rattle.owned.specs.Testing.{PlaceTogether}
use Rattle.owned.proofs.together.is_row_together.Given as goal

abbrev pub invariant-loop-i : goal.invariant-loop-i
invariant-loop-i l = (l.i ≤ 16) × ((j : ℕ) → j < l.i → PlaceTogether l.chain.table.now l.chain.blocks j l.round)
