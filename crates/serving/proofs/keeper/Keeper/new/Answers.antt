use Rattle.std.proofs.Common.{arith}
use Rattle.replies.proofs.CachedLaws.{cached-closed}
use Rattle.serving.proofs.keeper.Keeper.new.Goals as goal

pub invariant_of-result : goal.invariant_of-result
invariant_of-result c = record { table = c.requires; cached = rw c.closed.ensures (cached-closed _ _); in_range = rw c.closed.ensures (omega arith) }
