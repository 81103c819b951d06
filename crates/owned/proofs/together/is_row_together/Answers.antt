use Rattle.std.proofs.Common.{arith, sym, refl, ◌∙◌}
use Rattle.owned.proofs.TestingLaws.{tells-yes, tells-no}
use Rattle.owned.proofs.TogetherTestLaws.{row-together, places-on}
use Rattle.owned.proofs.together.is_row_together.Goals as goal

pub loop-i-preserved : goal.loop-i-preserved
loop-i-preserved c = let x = c.loop-i in
    (omega arith, places-on c.args.chain.table.now c.args.chain.blocks c.args.round x.i (c.is_place_together.ensures.0 c.if-not-is_place_together.false) x.invariant.1)

pub returns : goal.returns
returns c = let x = c.loop-i in
    tells-yes refl (row-together c.args.chain.table.now c.args.chain.blocks c.args.round (λ j h. x.invariant.1 j (omega arith)))

pub returns-then-not-is_place_together : goal.returns-then-not-is_place_together
returns-then-not-is_place_together c = tells-no refl (λ f. sym c.if-not-is_place_together.true ∙ c.is_place_together.ensures.1 (f c.loop-i.i))
