use Rattle.framing.proofs.FramingLaws.{step-told}
use Rattle.framing.proofs.theorems.told_once.Goals as goal

pub returns : goal.returns
returns c = step-told
