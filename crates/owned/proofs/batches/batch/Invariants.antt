use Rattle.std.proofs.Common.{◌≡◌}
use Rattle.words.specs.States.{state_in}
use Rattle.batch.specs.Batch.{turns_of}
use Rattle.batching.specs.Rows.{row_of}
use Rattle.batching.proofs.TurnLaws.{Trying}
use Rattle.owned.specs.Owned.{Owned}
use Rattle.owned.proofs.batches.batch.Given as goal

abbrev pub invariant-loop-place : goal.invariant-loop-place
invariant-loop-place l = record {
  order : l.place-items ≡ turns_of (row_of l.row);
  owned : Owned l.state l.table l.kept;
  trying : Trying l.row (state_in l.state) l.initial.table l.initial.answers l.answers l.table l.place-index;
}
