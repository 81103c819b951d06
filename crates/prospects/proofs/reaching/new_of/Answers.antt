use Rattle.std.proofs.Common.{ℕ, not, cond, ◌&&◌, eqb, refl, rules}
use Rattle.std.proofs.lemmas.Iterator.{YieldsList-from_range}
use Rattle.std.proofs.lemmas.Iterator.Consumers.{fold_from_yields_List}
use Rattle.base.specs.Folds.{fold_to}
use Rattle.base.specs.Sets.{contains, insert}
use Rattle.store.specs.Table.{mark_at}
use Rattle.prospects.proofs.ChoiceLaws.{new_chosen}
use Rattle.prospects.proofs.reaching.new_of.Goals as goal

pub returns : goal.returns
unfolding fold_to
returns c = let x = c.args in
    let step : ℕ → ℕ → ℕ = λ u a. cond (contains x.here a && (not (contains x.old a) && eqb (mark_at x.table.now a x.round) 0)) (insert u a) u in
    new_chosen x.table.now x.here x.old x.round _ (fold_from_yields_List _ step 0 _ c.fold.ensures.ran (YieldsList-from_range 0 16 16 refl refl) (λ u a v q k. search rules))
