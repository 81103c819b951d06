use Rattle.serving.proofs.CeilingLaws.{serves_to_64}
use Rattle.serving.proofs.theorems.serves_to_64.Goals as goal

pub returns : goal.returns
returns c = serves_to_64
