use Rattle.std.proofs.Common.{rules}
use Rattle.std.proofs.iter.Serving.{serving}
use Rattle.base.proofs.FromFn.{tab_from_fn}
use Rattle.committee.specs.BondEffects.{share_in, shares_of}
use Rattle.committee.proofs.BondEffectLaws.{part_of_total}
use Rattle.committee.proofs.effects.shares_of.Goals as goal

pub from_fn-requires : goal.from_fn-requires
from_fn-requires c = grind (serving, part_of_total c.requires)

pub returns : goal.returns
unfolding shares_of
returns c = tab_from_fn (share_in c.args.weights.now) _ _ 0 (λ k y q e. search rules) 16 c.from_fn.ensures.items
