use Rattle.owned.proofs.ResumingLaws.{opened_resumes}
use Rattle.owned.proofs.theorems.opened_resumes.Goals as goal

pub returns : goal.returns
returns c = λ w t k own sheet rights z l. opened_resumes w t k own sheet rights z l
