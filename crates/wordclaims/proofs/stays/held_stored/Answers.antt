use Rattle.wordclaims.proofs.StaysLaws.{held_stored}
use Rattle.wordclaims.proofs.stays.held_stored.Goals as goal

pub returns : goal.returns
returns c = held_stored
