use Rattle.std.proofs.Common.{sym, arith}
use Rattle.chain_committees.proofs.BlockChangeLaws.{same_at}
use Rattle.chain_committees.proofs.RunLaws.{row_first, row_above, row_on, rows-first, rows_next}
use Rattle.chain_committees.proofs.changes.block.apply_block.Goals as goal

pub loop-place-init : goal.loop-place-init
loop-place-init c = let r = c.requires in (row_first r.block (omega arith) (rw (← c.ceiling.view_is) at r.links), sym (rows-first (same_at c.args.table.now c.args.block) c.args.start.0 c.args.weights.now r.block (rw (← c.ceiling.view_is) at r.links)))

pub loop-place-smaller : goal.loop-place-smaller
loop-place-smaller c = omega (arith, row_above c.loop-place-test.true c.loop-place.invariant.0 c.apply_row-place.ensures.1)

pub loop-place-preserved : goal.loop-place-preserved
loop-place-preserved c = let x = c.loop-place in
    let p = c.loop-place-test.true in
    let q = c.apply_row-place in
    let e = rows_next (same_at c.args.table.now c.args.block) c.args.start.0 x.place q.result c.args.weights.now c.requires.start p x.invariant.0 q.ensures.1 in
    (row_on p x.invariant.0 q.ensures.1, rw (q.ensures.0, x.invariant.1) (sym e))
