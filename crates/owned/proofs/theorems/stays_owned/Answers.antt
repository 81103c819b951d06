use Rattle.owned.proofs.OwnedLaws.{owned_after}
use Rattle.owned.proofs.theorems.stays_owned.Goals as goal

pub returns : goal.returns
returns c = λ w t k h o b x d z. owned_after w t k h o b x d z
