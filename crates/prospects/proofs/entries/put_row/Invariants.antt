use Rattle.std.proofs.Common.{length}
use Rattle.base.proofs.PutLaws.{Putting}
use Rattle.base.specs.Sets.{contains}
use Rattle.prospects.specs.Entries.{row_entries}
use Rattle.prospects.proofs.entries.put_row.Given as goal

abbrev pub invariant-loop-i : goal.invariant-loop-i
invariant-loop-i l = Putting l.initial.list l.list l.at l.to (row_entries (contains l.authors) l.block l.round l.start.0 l.i) (length (row_entries (contains l.authors) l.block l.round l.start.0 l.i)) 16 l.i
