use Rattle.std.proofs.Common.{refl}
use Rattle.serial.specs.Calls.{reset}
use Rattle.engine.specs.Calls.{port}
use Rattle.owned.proofs.OwnedLaws.{owned_table}
use Rattle.owned.proofs.port_calls.port_reset.Goals as goal

pub returns-clause-owned : goal.returns-clause-owned
returns-clause-owned c = owned_table _ _ _ c.requires (port (reset c.args.guest)) tt refl refl (rw c.in-Some.ensures.1 at c.reset_formed.ensures.table)
