use Rattle.std.proofs.Common.{◌≡◌, ◌++◌, ◌-◌, ◌≤◌, length}
use Rattle.std.specs.Prelude.{All}
use Rattle.replaying.specs.Lists.{RecordWhole, rows_words}
use Rattle.replaying.proofs.reading.records.Given as goal

abbrev pub invariant-loop-rest : goal.invariant-loop-rest
invariant-loop-rest l = (length l.row.items ≤ l.count) × (l.words ≡ rows_words l.row.items ++ l.rest) × All RecordWhole l.row.items

abbrev pub decreases-loop-rest : goal.decreases-loop-rest
decreases-loop-rest l = l.count - length l.row.items
