use Rattle.std.proofs.Common.{arith}
use Rattle.chain_committees.proofs.ChainInTableLaws.{after-start}
use Rattle.chain_committees.proofs.StartLaws.{started_none}
use Rattle.chain_committees.proofs.walk.Walk.new.Goals as goal

pub invariant_of-result : goal.invariant_of-result
invariant_of-result c = record { linked = c.linked-head.ensures; after = after-start 1024; bounded = record { total = omega (arith, c.args.chain.told.total) }; started = started_none 16 }
