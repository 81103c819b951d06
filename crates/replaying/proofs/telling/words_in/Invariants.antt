use Rattle.std.proofs.Common.{◌≡◌, ◌++◌, length}
use Rattle.replaying.specs.Replays.{IsWords, bytes_of}
use Rattle.replaying.proofs.telling.words_in.Given as goal

abbrev pub invariant-loop-four : goal.invariant-loop-four
invariant-loop-four l = (l.bytes ≡ bytes_of l.words.items ++ l.rest) × IsWords l.words.items

abbrev pub decreases-loop-four : goal.decreases-loop-four
decreases-loop-four l = length l.rest
