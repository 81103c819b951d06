use Rattle.std.proofs.Common.{refl, sym}
use Rattle.state.proofs.FormedLaws.{formed}
use Rattle.serial.specs.Calls.{access, read}
use Rattle.engine.specs.Calls.{port}
use Rattle.owned.proofs.OwnedLaws.{owned_table}
use Rattle.owned.proofs.port_calls.port_read.Goals as goal

pub words-words-requires : goal.words-words-requires
words-words-requires c = rw c.in-Some.ensures.1 (formed _ _ (sym c.requires.cached.form))

pub returns-clause-owned : goal.returns-clause-owned
returns-clause-owned c = owned_table _ _ _ c.requires (port (access c.args.guest (read c.args.offset))) tt refl refl (rw c.in-Some.ensures.1 at c.read_formed.ensures.table)
