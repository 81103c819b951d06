use Rattle.std.proofs.Common.{refl}
use Rattle.engine.specs.Calls.{enqueue}
use Rattle.owned.proofs.OwnedLaws.{owned_table}
use Rattle.owned.proofs.queue_calls.enqueue.Goals as goal

pub returns-clause-owned : goal.returns-clause-owned
returns-clause-owned c = owned_table _ _ _ c.requires (enqueue c.args.guest c.in_ok-x.x) tt refl refl (rw c.in-Some.ensures.1 at c.enqueue_formed.ensures.table)
