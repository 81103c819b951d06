use Rattle.witnesses.proofs.Mixed.{met_with_guests}
use Rattle.witnesses.proofs.theorems.met_with_guests.Goals as goal

pub returns : goal.returns
returns c = met_with_guests
