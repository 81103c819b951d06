use Rattle.std.proofs.Common.{arith}
use Rattle.spans.proofs.StartLaws.{starts_more}
use Rattle.spans.proofs.starts.starts.Goals as goal

pub loop-i-preserved : goal.loop-i-preserved
loop-i-preserved c = (omega arith, starts_more (omega (arith, c.args.chain.told.few, c.args.chain.told.ceiling, c.requires.to)) c.in-Some.ensures.0 c.loop-i.invariant.1)
