use Rattle.state.proofs.PreservedLaws.{absent-kept}
use Rattle.state.proofs.theorems.formed_without.Goals as goal

pub returns : goal.returns
returns c = absent-kept
