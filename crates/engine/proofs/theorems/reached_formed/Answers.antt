use Rattle.engine.proofs.ReachedLaws.{reached_formed}
use Rattle.engine.proofs.theorems.reached_formed.Goals as goal

pub returns : goal.returns
returns c = reached_formed
