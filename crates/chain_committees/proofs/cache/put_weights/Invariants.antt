use Rattle.std.proofs.Common.{◌≡◌}
use Rattle.base.proofs.Words.{paste}
use Rattle.chain_committees.specs.Caches.{numbers}
use Rattle.chain_committees.proofs.cache.put_weights.Given as goal

abbrev pub invariant-loop-i : goal.invariant-loop-i
invariant-loop-i l = l.cache ≡ paste l.initial.cache l.at (numbers l.weights) l.i
