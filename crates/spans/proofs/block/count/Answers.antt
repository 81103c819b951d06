use Rattle.std.proofs.Common.{◌≡◌, ◌+◌, ◌*◌, arith}
use Rattle.chain_committees.specs.BlockChanges.{start_at}
use Rattle.chain_committees.proofs.RunLaws.{linked-head, linked-next, linked_up}
use Rattle.spans.proofs.RowLaws.{counted_first, counted_next, rows_length}
use Rattle.spans.proofs.block.count.Goals as goal

pub loop-place-init : goal.loop-place-init
loop-place-init c = let w = c.args.walk.now in
    let t = w.chain.table.now in
    let k = c.args.before + 1 in
    let l = linked-head {k = k} (omega (arith, w.chain.told.few, w.chain.told.ceiling, c.requires)) w.linked in
    let h = l.first.from in
    record { linked = linked_up _ h (omega arith) l; count = omega (arith, counted_first t k 16 _ l); most = omega arith }

pub loop-place-smaller : goal.loop-place-smaller
loop-place-smaller c = let x = c.loop-place in
    let h = (linked-next (omega arith) x.invariant.linked).first.from in
    omega arith

pub loop-place-preserved : goal.loop-place-preserved
loop-place-preserved c = let x = c.loop-place in
    let l = linked-next (omega arith) x.invariant.linked in
    let h = l.first.from in
    record {
      linked = linked_up _ h (omega arith) l;
      count = omega (arith, counted_next c.args.walk.now.chain.table.now (c.args.before + 1) x.place (omega arith) x.invariant.linked, x.invariant.count);
      most = omega (arith, x.invariant.most);
    }

pub returns-clause-count : goal.returns-clause-count
returns-clause-count c = let x = c.loop-place in
    let a = c.args.walk.now.chain in
    let h = x.invariant.linked.first.to in
    let i : x.place ≡ a.settings.now.ceiling * 16 + 16 = omega arith in
    omega (arith, rw i at x.invariant.count, rows_length a.table.now (c.args.before + 1) (start_at a.settings.now a.table.now c.args.before) a.settings.now.ceiling)

pub returns-clause-most : goal.returns-clause-most
returns-clause-most c = let x = c.loop-place in
    let h = x.invariant.linked.first.to in
    omega (arith, x.invariant.most, c.args.walk.now.chain.told.ceiling)
