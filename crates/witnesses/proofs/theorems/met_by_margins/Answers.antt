use Rattle.witnesses.proofs.Margins.{met_by_margins}
use Rattle.witnesses.proofs.theorems.met_by_margins.Goals as goal

pub returns : goal.returns
returns c = met_by_margins
