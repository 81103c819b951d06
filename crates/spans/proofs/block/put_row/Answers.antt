use Rattle.std.proofs.Common.{◌≡◌, refl, ◌∙◌, ◌/◌, arith}
use Rattle.base.proofs.PutLaws.{puts_none}
use Rattle.spans.proofs.RowLaws.{first_none, first_next, first_all, first_room}
use Rattle.spans.proofs.WordLaws.{words_none, put_then}
use Rattle.spans.proofs.block.put_row.Goals as goal

pub loop-i-init : goal.loop-i-init
loop-i-init c = let a = c.args in
    record { so_far = omega arith; kept = refl; puts = rw (first_none a.table.now a.block a.start.0 (a.place / 16)) (puts_none (words_none a.table.now a.block)) }

pub put_place-to-requires-clause-room : goal.put_place-to-requires-clause-room
put_place-to-requires-clause-room c = let a = c.args in
    let x = c.loop-i in
    omega (arith, first_room a.table.now a.block a.start.0 (a.place / 16) x.i (omega arith), c.requires.room, x.invariant.kept, x.invariant.puts.past, x.invariant.puts.room)

pub loop-i-preserved : goal.loop-i-preserved
loop-i-preserved c = let a = c.args in
    let x = c.loop-i in
    record {
      so_far = omega arith;
      kept = c.put_place-to.auto.list ∙ x.invariant.kept;
      puts = rw (first_next a.table.now a.block a.start.0 (a.place / 16) x.i) (put_then a.table.now a.block _ _ x.invariant.puts c.put_place-to.ensures);
    }

pub returns : goal.returns
returns c = let a = c.args in
    let x = c.loop-i in
    let i : x.i ≡ 16 = omega arith in
    rw (first_all a.table.now a.block a.start.0 (a.place / 16)) (rw i at x.invariant.puts)
