use Rattle.accept.proofs.Copies.{copy_still}
use Rattle.accept.proofs.theorems.copy_still.Goals as goal

pub returns : goal.returns
returns c = copy_still
