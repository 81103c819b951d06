use Rattle.earlier.proofs.RefusingLaws.{runs_were_allowed}
use Rattle.earlier.proofs.theorems.runs_were_allowed.Goals as goal

pub returns : goal.returns
returns c = runs_were_allowed
