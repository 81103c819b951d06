use Rattle.std.proofs.Common.{refl}
use Rattle.critical.specs.Critical.{critical_refusal, critical_list}
use Rattle.hosting.proofs.SettledLaws.{listed}
use Rattle.host.proofs.criticals.critical.Goals as goal

pub returns : goal.returns
unfolding critical_refusal critical_list
returns c = let s = c.in-Some.ensures in
    let x = rw s.1 at c.critical.ensures in
    listed _ _ _ _ _ refl s.0 x.refusal x.value x.table x.list
