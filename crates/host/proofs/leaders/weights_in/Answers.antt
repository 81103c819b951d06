use Rattle.std.proofs.Common.{rules, get_or}
use Rattle.base.proofs.FromFn.{tab_from_fn}
use Rattle.terms.specs.Ranges.{weight}
use Rattle.host.proofs.leaders.weights_in.Goals as goal

pub returns : goal.returns
returns c = let w = c.args.words.now in tab_from_fn (λ i. weight (get_or w i 0)) _ _ (weight 0) (λ k y q e. search rules) 16 c.from_fn.ensures.items
