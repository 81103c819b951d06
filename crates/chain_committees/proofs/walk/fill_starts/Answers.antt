use Rattle.std.proofs.Common.{arith}
use Rattle.chain_committees.proofs.StartLaws.{started_next}
use Rattle.chain_committees.proofs.walk.fill_starts.Goals as goal

pub loop-i-preserved : goal.loop-i-preserved
loop-i-preserved c = started_next c.args.chain.told (omega arith) c.block_round-round.ensures (omega arith) c.leader.ensures c.requires.after c.loop-i.invariant
