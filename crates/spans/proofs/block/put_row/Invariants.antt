use Rattle.std.proofs.Common.{◌*◌, ◌/◌, length}
use Rattle.base.proofs.PutLaws.{Putting}
use Rattle.words.specs.Lengths.{held_length}
use Rattle.spans.specs.Spans.{block_words}
use Rattle.spans.proofs.RowLaws.{first_held}
use Rattle.spans.proofs.block.put_row.Given as goal

abbrev pub invariant-loop-i : goal.invariant-loop-i
invariant-loop-i l = let h = first_held l.table l.block l.start.0 (l.place / 16) l.i in
    Putting l.initial.list l.list l.fn.at l.to (block_words l.table l.block h) (held_length * length h) 16 l.i
