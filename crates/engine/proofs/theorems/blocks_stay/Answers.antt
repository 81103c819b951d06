use Rattle.engine.proofs.ReachedLaws.{blocks_stay, numbers_stay}
use Rattle.engine.proofs.theorems.blocks_stay.Goals as goal

pub returns-clause-grown : goal.returns-clause-grown
returns-clause-grown c = blocks_stay

pub returns-clause-kept : goal.returns-clause-kept
returns-clause-kept c = numbers_stay
