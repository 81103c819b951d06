use Rattle.hosting.proofs.HeldLaws.{passes_on}
use Rattle.hosting.proofs.theorems.passes_on.Goals as goal

pub returns : goal.returns
returns c = passes_on
