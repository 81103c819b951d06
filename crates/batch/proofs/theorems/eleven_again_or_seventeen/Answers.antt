use Rattle.batch.proofs.AgainLaws.{eleven_again_or_seventeen}
use Rattle.batch.proofs.theorems.eleven_again_or_seventeen.Goals as goal

pub returns : goal.returns
returns c = eleven_again_or_seventeen
