use Rattle.hosting.proofs.RefusalLaws.{refused-same}
use Rattle.hosting.proofs.theorems.refused_same.Goals as goal

pub returns : goal.returns
returns c = refused-same
