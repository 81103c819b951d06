use Rattle.witnesses.proofs.Mixed.{met_with_a_draw}
use Rattle.witnesses.proofs.theorems.met_with_a_draw.Goals as goal

pub returns : goal.returns
returns c = met_with_a_draw
