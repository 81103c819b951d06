use Rattle.engine.proofs.ReachedLaws.{opened-fresh}
use Rattle.engine.proofs.theorems.opened_fresh.Goals as goal

pub returns : goal.returns
returns c = opened-fresh
