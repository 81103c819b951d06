use Rattle.std.proofs.Common.{rules, arith}
use Rattle.extents.proofs.TogetherLaws.{below_bare, below_first, top_fits}
use Rattle.extents.proofs.low.Goals as goal
use Rattle.extents.proofs.low.Goals.{then-loop-round-test+else-is_in, else-loop-round-test}

pub returns-clause-below : goal.returns-clause-below
returns-clause-below c = elim c.loop-round-test.branch [ then-loop-round-test+else-is_in w ↦ below_bare _ _ _ _ _ (c.requires.together (search rules)) c.requires.block.0 c.requires.block.1 (omega (arith, c.loop-round.invariant, top_fits _ _ _ _ c.args.chain.told c.requires.block.0 c.requires.block.1)) c.loop-round.invariant (omega arith) (w.is_in.ensures.no w.if-is_in.false) | else-loop-round-test w ↦ below_first _ _ _ _ (λ z. omega (arith, w.loop-round-test.false)) ]
