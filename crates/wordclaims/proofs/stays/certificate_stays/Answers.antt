use Rattle.wordclaims.proofs.StaysLaws.{certificate_stays}
use Rattle.wordclaims.proofs.stays.certificate_stays.Goals as goal

pub returns : goal.returns
returns c = certificate_stays
