use Rattle.std.proofs.Common.{◌≡◌, [], ◌+◌, ◌*◌, ◌/◌, arith}
use Rattle.base.proofs.PutLaws.{puts_none}
use Rattle.chain_committees.specs.LinkRuns.{rows_over}
use Rattle.chain_committees.proofs.StartLaws.{start_le}
use Rattle.spans.specs.Rows.{add_held, HeldFits}
use Rattle.spans.proofs.RowLaws.{rows_below, rows_above, rows_further, room_next}
use Rattle.spans.proofs.WordLaws.{words_none, put_then}
use Rattle.spans.proofs.between.put.Goals as goal

pub loop-r-init : goal.loop-r-init
loop-r-init c = let a = c.args.chain in
    let k = c.args.before + 1 in
    let e = rows_below a.table.now k c.args.start.0 c.low-low.ensures.to c.low-low.ensures.below in
    rw c.low.view_is (c.low-low.ensures.to, rw e (puts_none (words_none a.table.now k)))

pub put_row-to-requires : goal.put_row-to-requires
put_row-to-requires c = let x = c.loop-r in
    let a = c.args.chain in
    let t = a.table.now in
    let k = c.args.before + 1 in
    let n = a.settings.now.ceiling in
    let r = room_next t k c.args.start.0 x.r n (omega (arith, c.top-top.ensures.to)) in
    let q : HeldFits c.args.list.now c.args.at (rows_over (add_held t k) c.args.start.0 n []) = rw c.requires.start c.requires.room in
    let i : (x.r * 16 + 16) / 16 ≡ x.r + 1 = omega arith in
    rw i (record {
      row = omega (arith, a.told.long, c.top-top.ensures.to);
      start = rw c.requires.start (start_le a.settings.now t c.args.before);
      room = omega (arith, r, q, x.invariant.1.past, x.invariant.1.room);
    })

pub loop-r-preserved : goal.loop-r-preserved
loop-r-preserved c = let x = c.loop-r in
    let t = c.args.chain.table.now in
    let k = c.args.before + 1 in
    let e = rows_further t k c.args.start.0 x.r in
    let i : (x.r * 16 + 16) / 16 ≡ x.r + 1 = omega arith in
    (omega (arith, c.top-top.ensures.to), rw (e, ← i) (put_then t k _ _ x.invariant.1 c.put_row-to.ensures))

pub returns : goal.returns
returns c = let x = c.loop-r in
    let a = c.args.chain in
    let e = rows_above a.table.now (c.args.before + 1) c.args.start.0 x.r (omega arith) x.invariant.0 c.top-top.ensures.above in
    rw (← c.requires.start, e) x.invariant.1
