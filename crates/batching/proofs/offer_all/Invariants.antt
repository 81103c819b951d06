use Rattle.std.proofs.Common.{◌≡◌}
use Rattle.batch.specs.Batch.{turns_of}
use Rattle.batching.specs.Rows.{row_of}
use Rattle.batching.specs.TakenTurns.{Ready}
use Rattle.batching.proofs.TurnLaws.{Trying}
use Rattle.batching.proofs.offer_all.Given as goal

abbrev pub invariant-loop-place : goal.invariant-loop-place
invariant-loop-place l = record {
  order : l.place-items ≡ turns_of (row_of l.row);
  ready : Ready l.state l.table l.cache;
  trying : Trying l.row l.state l.initial.table l.initial.answers l.answers l.table l.place-index;
}
