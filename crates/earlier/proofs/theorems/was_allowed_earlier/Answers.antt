use Rattle.earlier.proofs.EarlierLaws.{was_allowed_earlier}
use Rattle.earlier.proofs.theorems.was_allowed_earlier.Goals as goal

pub returns : goal.returns
returns c = was_allowed_earlier
