use Rattle.std.proofs.Common.{refl}
use Rattle.prospects.proofs.StepLaws.{block_ready, step_passed, step_listed}
use Rattle.prospects.proofs.list_step.Goals as goal

pub list_block-requires : goal.list_block-requires
list_block-requires g c = rw c.round.view_is (block_ready refl refl (rw c.round.view_is at c.if-author-lt16.true) c.requires)

pub returns-then-author-lt16 : goal.returns-then-author-lt16
returns-then-author-lt16 g c = step_listed refl refl (rw c.round.view_is at c.if-author-lt16.true) (rw c.round.view_is at c.list_block.ensures)

pub returns-else-author-lt16 : goal.returns-else-author-lt16
returns-else-author-lt16 g c = step_passed (rw c.round.view_is at c.if-author-lt16.false) c.requires
