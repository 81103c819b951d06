use Rattle.std.proofs.Common.{arith, refl, rules}
use Rattle.std.proofs.lemmas.Iterator.{YieldsList-from_range}
use Rattle.base.proofs.RangeSums.{sum_fits}
use Rattle.terms.specs.Ranges.{weight_in}
use Rattle.committee.proofs.committees.Committee.total.Goals as goal

pub sum-requires-clause-fits : goal.sum-requires-clause-fits
sum-requires-clause-fits c = let s = c.args.self.now in
    sum_fits (weight_in s.weights) 16 (YieldsList-from_range 0 16 16 c.map.ensures.source refl) c.map.ensures.closure (λ x r q k. search rules) (omega (arith, s.bounded.total))
