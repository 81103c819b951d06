use Rattle.nonforking.proofs.StartLaws.{start_fresh}
use Rattle.nonforking.proofs.theorems.members_start_fresh.Goals as goal

pub returns : goal.returns
returns c = start_fresh
