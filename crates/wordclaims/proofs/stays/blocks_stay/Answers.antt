use Rattle.wordclaims.proofs.StaysLaws.{blocks_grow, blocks_keep}
use Rattle.wordclaims.proofs.stays.blocks_stay.Goals as goal

pub returns-clause-grown : goal.returns-clause-grown
returns-clause-grown c = blocks_grow

pub returns-clause-kept : goal.returns-clause-kept
returns-clause-kept c = blocks_keep
