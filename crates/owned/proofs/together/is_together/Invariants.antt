use Rattle.std.proofs.Common.{◌≤◌}
use Rattle.owned.specs.Testing.{RowsTogether}
use Rattle.owned.proofs.together.is_together.Given as goal

abbrev pub invariant-loop-q : goal.invariant-loop-q
invariant-loop-q l = (l.q ≤ l.chain.settings.now.ceiling) × RowsTogether l.chain.table.now l.chain.blocks l.q
