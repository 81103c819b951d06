use Rattle.std.proofs.Common.{refl, arith}
use Rattle.serial.specs.Calls.{access, write}
use Rattle.engine.specs.Calls.{port}
use Rattle.owned.proofs.OwnedLaws.{owned_table}
use Rattle.owned.proofs.port_calls.port_write.Goals as goal

pub returns-clause-owned : goal.returns-clause-owned
returns-clause-owned c = owned_table _ _ _ c.requires (port (access c.args.guest (write c.args.offset c.args.value))) (omega arith) refl refl (rw c.in-Some.ensures.1 at c.write_formed.ensures.table)
