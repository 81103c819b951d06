use Rattle.std.proofs.Common.{sym}
use Rattle.batching.proofs.TurnLaws.{ready-next}
use Rattle.hosting.proofs.HandedLaws.{accept-handed}
use Rattle.batching.proofs.offer.Goals as goal

pub cache_committees-requires : goal.cache_committees-requires
cache_committees-requires c = record { form = sym c.requires.formed; committees = λ _. c.requires.caches }

pub returns-clause-ready : goal.returns-clause-ready
returns-clause-ready c = ready-next c.in-Some.certificate c.requires (rw c.in-Some.ensures.1 ((accept-handed _).is_in_range c.in-Some.ensures.0)) c.accept_cached.ensures.table (c.cache_committees.ensures.committees c.requires.formed)
