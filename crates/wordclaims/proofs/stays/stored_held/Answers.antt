use Rattle.wordclaims.proofs.StaysLaws.{stored_held}
use Rattle.wordclaims.proofs.stays.stored_held.Goals as goal

pub returns : goal.returns
returns c = stored_held
