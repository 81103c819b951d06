use Rattle.std.proofs.Common.{◌≡◌, [], ap, sym, ◌∙◌, ◌+◌, ◌*◌, ◌/◌, arith, length, length-append}
use Rattle.chain_committees.specs.BlockChanges.{start_at}
use Rattle.chain_committees.specs.LinkRuns.{rows_over}
use Rattle.spans.specs.Rows.{add_held, row_held}
use Rattle.spans.proofs.RowLaws.{rows_below, rows_above, rows_further}
use Rattle.spans.proofs.between.count.Goals as goal

pub loop-q-init : goal.loop-q-init
loop-q-init c = let a = c.args.chain in
    let s = start_at a.settings.now a.table.now c.args.before in
    let e = ap length (rows_below a.table.now (c.args.before + 1) s c.low-low.ensures.to c.low-low.ensures.below) in
    rw c.low.view_is (record { to = c.low-low.ensures.to; count = sym e; most = omega arith })

pub loop-q-preserved : goal.loop-q-preserved
loop-q-preserved c = let a = c.args.chain in
    let x = c.loop-q in
    let k = c.args.before + 1 in
    let s = start_at a.settings.now a.table.now c.args.before in
    let h = rows_over (add_held a.table.now k) s x.q [] in
    let r = row_held a.table.now k s (x.q + 1) in
    let e = ap length (rows_further a.table.now k s x.q) ∙ length-append h r in
    let i : (x.q * 16 + 16) / 16 ≡ x.q + 1 = omega arith in
    let n = rw i at (c.count_row-count.ensures.count s) in
    record {
      to = omega (arith, c.top-top.ensures.to);
      count = omega (arith, e, x.invariant.count, n);
      most = omega (arith, x.invariant.most, c.count_row-count.ensures.most);
    }

pub returns-clause-count : goal.returns-clause-count
returns-clause-count c = let a = c.args.chain in
    let x = c.loop-q in
    let s = start_at a.settings.now a.table.now c.args.before in
    let e = rows_above a.table.now (c.args.before + 1) s x.q (omega arith) x.invariant.to c.top-top.ensures.above in
    x.invariant.count ∙ sym (ap length e)
