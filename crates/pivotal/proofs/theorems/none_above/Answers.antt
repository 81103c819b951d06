use Rattle.pivotal.proofs.FreeLaws.{none_above}
use Rattle.pivotal.proofs.theorems.none_above.Goals as goal

pub returns : goal.returns
returns c = none_above
