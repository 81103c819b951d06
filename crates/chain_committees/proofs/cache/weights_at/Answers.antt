use Rattle.std.proofs.Common.{rules, get_or, ◌+◌}
use Rattle.base.proofs.FromFn.{tab_from_fn}
use Rattle.terms.specs.Ranges.{weight}
use Rattle.chain_committees.specs.Caches.{weights_at}
use Rattle.chain_committees.proofs.cache.weights_at.Goals as goal

pub returns : goal.returns
unfolding weights_at
returns c = let a = c.args in tab_from_fn (λ k. weight (get_or a.cache.now (a.at + k) 0)) _ _ (weight 0) (λ k y q e. search rules) 16 c.from_fn.ensures.items
