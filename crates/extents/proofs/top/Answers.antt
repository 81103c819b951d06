use Rattle.std.proofs.Common.{arith}
use Rattle.extents.proofs.TogetherLaws.{above_own}
use Rattle.extents.proofs.top.Goals as goal

pub returns-then-together-clause-above : goal.returns-then-together-clause-above
returns-then-together-clause-above c = above_own _ _ _ _ (c.requires.together c.if-together.true) c.requires.block.0 c.requires.block.1 (omega arith) c.block_round.ensures
