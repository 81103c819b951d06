use Rattle.std.proofs.Common.{refl}
use Rattle.critical.specs.Critical.{critical_refusal, critical_list}
use Rattle.hosting.proofs.SettledLaws.{listed}
use Rattle.owned.proofs.lists.critical.Goals as goal

pub returns-clause-done : goal.returns-clause-done
unfolding critical_refusal critical_list
returns-clause-done c = let s = c.in-Some.ensures in
    let x = rw s.1 at c.critical_kept.ensures in
    listed _ _ _ _ _ refl s.0 x.refusal x.value x.table x.list

pub returns-clause-owned : goal.returns-clause-owned
returns-clause-owned c = rw c.critical_kept.ensures.table c.requires
