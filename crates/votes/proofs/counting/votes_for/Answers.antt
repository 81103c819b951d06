use Rattle.std.proofs.Common.{rules, arith, refl, cond}
use Rattle.std.proofs.lemmas.Iterator.{YieldsList-from_range}
use Rattle.base.proofs.RangeSums.{sum_fits}
use Rattle.terms.specs.Ranges.{weight_in}
use Rattle.committee.proofs.CommitteeLaws.{weigh_le}
use Rattle.votes.specs.Votes.{votes_at}
use Rattle.votes.proofs.counting.votes_for.Goals as goal

-- votes weigh no more than all
pub sum-requires-clause-fits : goal.sum-requires-clause-fits
sum-requires-clause-fits c = let a = c.args in
    let f = votes_at a.table.now a.round a.author.0 in
    let w = weight_in a.weights.now in
    sum_fits (λ m. cond (f m) (w m) 0) 16 (YieldsList-from_range 0 16 16 c.map.ensures.source refl) c.map.ensures.closure (λ x r q k. search rules) (omega (arith, c.requires.bounded.total, weigh_le w f 16 16 (omega arith)))
