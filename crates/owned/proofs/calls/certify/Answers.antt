use Rattle.std.proofs.Common.{refl, sym, arith}
use Rattle.engine.specs.Calls.{certify}
use Rattle.state.proofs.FormedLaws.{formed}
use Rattle.owned.proofs.OwnedLaws.{owned_table}
use Rattle.owned.proofs.calls.certify.Goals as goal

pub words-words-requires : goal.words-words-requires
words-words-requires c = rw c.in-Some.ensures.1 (formed _ _ (sym c.requires.cached.form))

pub returns-clause-owned : goal.returns-clause-owned
returns-clause-owned c = owned_table _ _ _ c.requires (certify c.in-Ok.endorsers) (omega arith) refl refl (rw c.in-Some.ensures.1 at c.certify_cached.ensures.table)
