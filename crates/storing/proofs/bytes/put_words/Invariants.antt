use Rattle.std.proofs.Common.{◌≡◌, ◌*◌, take}
use Rattle.std.proofs.Math.Seq.{paste}
use Rattle.storing.specs.Bytes.{bytes_of}
use Rattle.storing.proofs.bytes.put_words.Given as goal

abbrev pub invariant-loop-index : goal.invariant-loop-index
invariant-loop-index l = l.out ≡ paste l.initial.out (4 * l.at) (bytes_of (take l.index l.words)) (4 * l.index)
