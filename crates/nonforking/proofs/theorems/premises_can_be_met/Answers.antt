use Rattle.nonforking.proofs.Witness.{premises_can_be_met}
use Rattle.nonforking.proofs.theorems.premises_can_be_met.Goals as goal

pub returns : goal.returns
returns c = premises_can_be_met
