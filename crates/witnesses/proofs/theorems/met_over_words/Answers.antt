use Rattle.witnesses.proofs.Mixed.{met_over_words}
use Rattle.witnesses.proofs.theorems.met_over_words.Goals as goal

pub returns : goal.returns
returns c = met_over_words
