use Rattle.std.proofs.Common.{refl, ◌-◌, ◌∙◌, arith}
use Rattle.base.proofs.PutLaws.{puts_then, puts_none, puts_as}
use Rattle.prospects.specs.Entries.{in_sets}
use Rattle.prospects.proofs.EntryLaws.{rows_none, rows_more, rows-length, rows-room}
use Rattle.prospects.proofs.entries.put_rows.Goals as goal

pub loop-i-init : goal.loop-i-init
loop-i-init c = record { so_far = omega arith; kept = refl; puts = puts_none (rows_none _ _ _ _) }

pub put_row-to-requires : goal.put_row-to-requires
put_row-to-requires c = let a = c.args in
    let x = c.loop-i in
    let k = c.requires in
    rw c.low.view_is (k.start, omega (arith, rows-room (in_sets a.sets.now) a.anchor.block a.anchor.author.0 a.low x.i (a.top - a.low) (omega arith), k.room, x.invariant.kept, x.invariant.puts.past))

pub loop-i-preserved : goal.loop-i-preserved
loop-i-preserved c = let x = c.loop-i in
    let a = c.args in
    record {
      so_far = omega arith;
      kept = c.put_row-to.auto.list ∙ x.invariant.kept;
      puts = puts_as (rows_more _ _ _ _ x.i) (omega (arith, rows-length (in_sets a.sets.now) a.anchor.block a.anchor.author.0 a.low x.i)) (puts_then x.invariant.puts (rw c.low.view_is at c.put_row-to.ensures));
    }
