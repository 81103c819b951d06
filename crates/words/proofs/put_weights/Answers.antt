use Rattle.std.proofs.Common.{rules}
use Rattle.base.proofs.FromFn.{tab_from_fn}
use Rattle.base.proofs.FoldLaws.{length-tab}
use Rattle.terms.specs.Ranges.{weight_in}
use Rattle.words.specs.Words.{weight_words}
use Rattle.words.proofs.put_weights.Goals as goal

pub returns : goal.returns
unfolding weight_words
returns c = let x = c.args.weights in rw (tab_from_fn (weight_in x) _ _ 0 (λ k y q e. search rules) 16 c.from_fn-words.ensures.items, length-tab (weight_in x) 16) at c.put.ensures
