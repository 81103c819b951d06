use Rattle.nonforking.proofs.StoredLaws.{certificate_stays}
use Rattle.nonforking.proofs.theorems.certificate_stays.Goals as goal

pub returns : goal.returns
returns c = certificate_stays
