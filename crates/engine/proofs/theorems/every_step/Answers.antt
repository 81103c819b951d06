use Rattle.engine.proofs.StepLaws.{every_step}
use Rattle.engine.proofs.theorems.every_step.Goals as goal

pub returns : goal.returns
returns c = every_step
