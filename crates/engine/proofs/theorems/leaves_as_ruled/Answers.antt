use Rattle.engine.proofs.RuledLaws.{leaves_as_ruled}
use Rattle.engine.proofs.theorems.leaves_as_ruled.Goals as goal

pub returns : goal.returns
returns c = leaves_as_ruled
