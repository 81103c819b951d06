use Rattle.std.proofs.Common.{◌≡◌, ◌++◌, take}
use Rattle.replaying.specs.Replays.{answer_bytes}
use Rattle.replaying.proofs.telling.put_answers.Given as goal

abbrev pub invariant-loop-answer : goal.invariant-loop-answer
invariant-loop-answer l = l.out.items ≡ l.initial.out.items ++ answer_bytes (take l.answer-index l.answers)
