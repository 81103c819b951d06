use Rattle.kept.proofs.KeptLaws.{blocks_stay_then, numbers_stay_then}
use Rattle.kept.proofs.blocks_stay.Goals as goal

pub returns-clause-grown : goal.returns-clause-grown
returns-clause-grown c = blocks_stay_then

pub returns-clause-kept : goal.returns-clause-kept
returns-clause-kept c = numbers_stay_then
