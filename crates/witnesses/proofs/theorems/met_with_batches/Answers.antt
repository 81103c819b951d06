use Rattle.witnesses.proofs.Mixed.{met_with_batches}
use Rattle.witnesses.proofs.theorems.met_with_batches.Goals as goal

pub returns : goal.returns
returns c = met_with_batches
