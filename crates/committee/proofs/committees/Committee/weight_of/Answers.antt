use Rattle.std.proofs.Common.{arith, refl, rules, cond}
use Rattle.std.proofs.lemmas.Iterator.{YieldsList-from_range}
use Rattle.base.proofs.RangeSums.{sum_fits}
use Rattle.base.specs.Sets.{contains}
use Rattle.terms.specs.Ranges.{weight_in}
use Rattle.committee.proofs.CommitteeLaws.{weigh_le}
use Rattle.committee.proofs.committees.Committee.weight_of.Goals as goal

pub sum-requires-clause-fits : goal.sum-requires-clause-fits
sum-requires-clause-fits c = let s = c.args.self.now in
    let f = contains c.args.set in
    let w = weight_in s.weights in
    sum_fits (λ m. cond (f m) (w m) 0) 16 (YieldsList-from_range 0 16 16 c.map.ensures.source refl) c.map.ensures.closure (λ x r q k. search rules) (omega (arith, s.bounded.total, weigh_le w f 16 16 (omega arith)))
