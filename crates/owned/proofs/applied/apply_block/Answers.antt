use Rattle.std.proofs.Common.{◌≡◌, arith}
use Rattle.chain_committees.proofs.BoundLaws.{rows_total}
use Rattle.owned.proofs.SpanLaws.{rows-from, rows-next, rows-all}
use Rattle.owned.proofs.applied.apply_block.Goals as goal

pub loop-q-init : goal.loop-q-init
loop-q-init c = let p = c.requires in
    let a = c.args in
    rw c.low.view_is (record { to = p.from; weights = rows-from a.table.now a.span.block a.span.start.0 a.weights.now a.span.low (λ q h i x m. omega (arith, (p.inside i _ (omega arith) (omega (arith, p.from, p.to)) x m).0)) })

pub apply_row-requires : goal.apply_row-requires
apply_row-requires c = let p = c.requires in
    let a = c.args in
    let x = c.loop-q in
    let l = rows_total a.table.now (λ j. (c.type_inv.table j).fits) a.span.block a.span.start.0 x.q a.weights.now (omega (arith, p.rows.round, p.to)) in
    record { row = omega (arith, p.rows.long, p.to); start = p.start; total = rw x.invariant.weights (omega (arith, l, p.total)) }

pub loop-q-preserved : goal.loop-q-preserved
loop-q-preserved c = let a = c.args in
    record { to = omega arith; weights = rows-next a.table.now a.span.block a.span.start.0 a.weights.now c.loop-q.q c.loop-q.invariant.weights c.apply_row.ensures }

pub returns : goal.returns
returns c = let p = c.requires in
    let a = c.args in
    let x = c.loop-q in
    let e : x.q ≡ a.span.top = omega (arith, x.invariant.to) in
    rows-all a.table.now a.span.block a.span.start.0 a.weights.now a.span.top a.ceiling p.to (λ q h l i y m. omega (arith, (p.inside i _ (omega arith) (omega arith) y m).1)) (rw e at x.invariant.weights)
