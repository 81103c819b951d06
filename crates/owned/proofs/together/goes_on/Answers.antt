use Rattle.std.proofs.Common.{sym, ◌∙◌, eqb, eqb-true}
use Rattle.base.proofs.Bools.{both}
use Rattle.store.specs.Table.{held_at, mark_at}
use Rattle.owned.proofs.TogetherTestLaws.{tells-both}
use Rattle.owned.proofs.together.goes_on.Goals as goal

pub returns-then-is_at : goal.returns-then-is_at
returns-then-is_at c =
    let a = c.args in
    let x = both (held_at a.table.now a.author.0 a.round) (eqb (mark_at a.table.now a.author.0 a.round) a.block) (sym c.is_at.ensures ∙ c.if-is_at.true) in
    (λ z. record { author = a.author.0; held = x.0; mark = eqb-true _ _ x.1 }, λ z. c.if-is_at.true)

pub returns-else-is_at : goal.returns-else-is_at
returns-else-is_at c = tells-both c.is_in.ensures.yes c.is_in.ensures.no
