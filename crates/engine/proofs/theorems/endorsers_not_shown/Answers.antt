use Rattle.engine.proofs.RuledLaws.{certified_alike, accepted_alike}
use Rattle.engine.proofs.theorems.endorsers_not_shown.Goals as goal

pub returns-clause-certify : goal.returns-clause-certify
returns-clause-certify c = certified_alike

pub returns-clause-accept : goal.returns-clause-accept
returns-clause-accept c = accepted_alike
