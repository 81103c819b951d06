use Rattle.hosting.proofs.FormedLaws.{accepted-formed}
use Rattle.hosting.proofs.theorems.accepted_formed.Goals as goal

pub returns : goal.returns
returns g = λ w t o b c h z. accepted-formed w t o h z
