use Rattle.std.proofs.Common.{◌≡◌, ◌∙◌, [], ◌+◌, ◌-◌, ◌<◌, ◌/◌, arith}
use Rattle.base.proofs.PutLaws.{puts_none}
use Rattle.chain_committees.proofs.RunLaws.{row_first, row_above, row_on, rows-first, rows_step}
use Rattle.chain_committees.specs.LinkRuns.{rows_over}
use Rattle.chain_committees.proofs.StartLaws.{start_le}
use Rattle.spans.specs.Rows.{add_held, HeldFits}
use Rattle.spans.proofs.RowLaws.{same_at, row_after, rows_room}
use Rattle.spans.proofs.WordLaws.{words_none, put_then}
use Rattle.spans.proofs.block.put.Goals as goal

pub loop-place-init : goal.loop-place-init
loop-place-init c = let w = c.args.walk.now in
    let t = w.chain.table.now in
    let k = c.args.before + 1 in
    let few : k < 512 = omega (arith, w.chain.told.few, w.chain.told.ceiling, c.requires.before) in
    let linked = rw (← c.ceiling.view_is) at w.linked in
    (row_first few (omega arith) linked, rw (rows-first (same_at t k) c.args.start.0 [] few linked) (puts_none (words_none t k)))

pub put_row-to-requires : goal.put_row-to-requires
put_row-to-requires c = let x = c.loop-place in
    let a = c.args.walk.now.chain in
    let t = a.table.now in
    let k = c.args.before + 1 in
    let n = a.settings.now.ceiling in
    let r = rows_room t k c.args.start.0 (x.place / 16) n (omega (arith, x.invariant.0.low)) (omega arith) in
    let q : HeldFits c.args.list.now c.args.at (rows_over (add_held t k) c.args.start.0 n []) = rw c.requires.start c.requires.room in
    record {
      row = omega (arith, a.told.long);
      start = rw c.requires.start (start_le a.settings.now t c.args.before);
      room = omega (arith, r, q, x.invariant.1.past, x.invariant.1.room);
    }

pub loop-place-smaller : goal.loop-place-smaller
loop-place-smaller c = omega (arith, row_above c.loop-place-test.true c.loop-place.invariant.0 c.run_end-place.ensures)

pub loop-place-preserved : goal.loop-place-preserved
loop-place-preserved c = let x = c.loop-place in
    let t = c.args.walk.now.chain.table.now in
    let k = c.args.before + 1 in
    let a = c.args.start.0 in
    let p = c.loop-place-test.true in
    let q = c.run_end-place in
    let e = rows_step (same_at t k) a x.place q.result [] p x.invariant.0 q.ensures ∙ row_after t k a (x.place / 16) _ in
    (row_on p x.invariant.0 q.ensures, rw e (put_then t k _ _ x.invariant.1 c.put_row-to.ensures))

pub returns : goal.returns
returns c = let x = c.loop-place in
    let h = x.invariant.0.linked.first.to in
    let i : x.place / 16 - 1 ≡ c.args.walk.now.chain.settings.now.ceiling = omega arith in
    rw (← c.requires.start) (rw i at x.invariant.1)
