use Rattle.std.proofs.Common.{◌*◌}
use Rattle.base.specs.Folds.{tab}
use Rattle.base.specs.Puts.{Puts}
use Rattle.terms.specs.Proposals.{slot_of}
use Rattle.listing.specs.Lines.{triples_fields}
use Rattle.listing.proofs.lines.put_triples.Given as goal

abbrev pub invariant-loop-k : goal.invariant-loop-k
invariant-loop-k l = Puts l.initial.buffer l.buffer l.at l.next (triples_fields (tab (slot_of l.body) l.k)) (l.k * 24)
