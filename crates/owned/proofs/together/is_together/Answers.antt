use Rattle.std.proofs.Common.{◌≡◌, ◌+◌, arith, sym, refl, ◌∙◌}
use Rattle.owned.proofs.TestingLaws.{tells-yes, tells-no}
use Rattle.owned.proofs.TogetherTestLaws.{rows-none, rows-on, rows-all, together-row}
use Rattle.owned.proofs.together.is_together.Goals as goal

pub loop-q-init : goal.loop-q-init
loop-q-init c = (omega arith, rows-none c.args.chain.table.now c.args.chain.blocks)

pub loop-q-preserved : goal.loop-q-preserved
loop-q-preserved c = let x = c.loop-q in
    (omega arith, rows-on c.args.chain.table.now c.args.chain.blocks x.q (c.is_row_together.ensures.0 c.if-not-is_row_together.false) x.invariant.1)

pub returns : goal.returns
returns c = let x = c.loop-q in
    let a = c.args.chain in
    let e : x.q ≡ a.settings.now.ceiling = omega (arith, x.invariant.0) in
    tells-yes refl (rows-all a.table.now a.blocks a.settings.now.ceiling (rw e at x.invariant.1))

pub returns-then-not-is_row_together : goal.returns-then-not-is_row_together
returns-then-not-is_row_together c = let x = c.loop-q in
    let a = c.args.chain in
    tells-no refl (λ w. sym c.if-not-is_row_together.true ∙ c.is_row_together.ensures.1 (together-row a.table.now a.blocks a.told (x.q + 1) (omega arith) (omega arith) w))
