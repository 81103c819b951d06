use Rattle.std.proofs.Common.{arith, ◌-◌}
use Rattle.owned.proofs.TestingLaws.{names-held}
use Rattle.owned.proofs.rooted.is_set_held.Goals as goal

pub returns : goal.returns
returns c = let a = c.args in names-held a.table.now a.round c.held_set.result a.named (a.round - 1) (omega arith) (omega arith) (rw c.round.view_is at c.held_set.ensures) (omega arith) c.is_subset.ensures
