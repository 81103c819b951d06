use Rattle.nonforking.proofs.StartLaws.{correct-below}
use Rattle.nonforking.proofs.theorems.correct_below_16.Goals as goal

pub returns : goal.returns
returns c = correct-below
