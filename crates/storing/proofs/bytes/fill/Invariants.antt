use Rattle.std.proofs.Common.{◌≡◌, take}
use Rattle.storing.specs.Bytes.{words_in}
use Rattle.storing.proofs.bytes.fill.Given as goal

abbrev pub invariant-loop-index : goal.invariant-loop-index
invariant-loop-index l = take l.index l.out ≡ words_in l.bytes l.at l.index
