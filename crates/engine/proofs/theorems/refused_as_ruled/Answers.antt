use Rattle.engine.proofs.RuledLaws.{refused_as_ruled}
use Rattle.engine.proofs.theorems.refused_as_ruled.Goals as goal

pub returns : goal.returns
returns c = refused_as_ruled
