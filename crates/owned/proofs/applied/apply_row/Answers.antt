use Rattle.std.proofs.Common.{◌+◌, ◌*◌, ◌%◌, ◌≤◌, ◌≡◌, arith}
use Rattle.committee.specs.Totals.{total_in}
use Rattle.owned.proofs.SpanLaws.{row-none, row-more, row-all, place-total}
use Rattle.owned.proofs.applied.apply_row.Goals as goal

pub loop-i-init : goal.loop-i-init
loop-i-init c = record { to = omega arith; weights = row-none c.args.table.now c.args.block c.args.start.0 c.args.round c.args.weights.now; total = omega arith }

pub loop-i-preserved : goal.loop-i-preserved
loop-i-preserved c =
    let a = c.args in
    let x = c.loop-i in
    let i = x.invariant in
    let e = c.apply_place.ensures in
    let p = place-total a.table.now (λ j. (c.type_inv.table j).fits) a.block (a.round * 16 + (a.start.0 + x.i) % 16) x.weights in
    let t : total_in c.apply_place.new.weights ≤ total_in x.weights + 17179869180 = rw e p in
    record { to = omega arith; weights = row-more a.table.now a.block a.start.0 a.round a.weights.now x.i i.weights e; total = omega (arith, t, i.total) }

pub returns : goal.returns
returns c = let x = c.loop-i in
    let e : x.i ≡ 16 = omega (arith, x.invariant.to) in
    row-all c.args.table.now c.args.block c.args.start.0 c.args.round c.args.weights.now (rw e at x.invariant.weights)
