use Rattle.wordclaims.proofs.DrawLaws.{draws_are_fair}
use Rattle.wordclaims.proofs.guests.draws_are_fair.Goals as goal

pub returns : goal.returns
returns c = draws_are_fair
