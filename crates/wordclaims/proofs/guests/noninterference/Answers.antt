use Rattle.wordclaims.proofs.RightsLaws.{noninterference}
use Rattle.wordclaims.proofs.guests.noninterference.Goals as goal

pub returns : goal.returns
returns c = noninterference
