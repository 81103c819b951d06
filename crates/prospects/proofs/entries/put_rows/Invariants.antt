use Rattle.std.proofs.Common.{length}
use Rattle.base.proofs.PutLaws.{Putting}
use Rattle.prospects.specs.Entries.{rows_entries, in_sets}
use Rattle.prospects.proofs.entries.put_rows.Given as goal

abbrev pub invariant-loop-i : goal.invariant-loop-i
invariant-loop-i l = Putting l.initial.list l.list l.at l.to (rows_entries (in_sets l.sets) l.anchor.block l.anchor.author.0 l.fn.low l.i) (length (rows_entries (in_sets l.sets) l.anchor.block l.anchor.author.0 l.fn.low l.i)) l.rounds l.i
