use Rattle.std.proofs.Common.{refl, ◌∙◌, arith}
use Rattle.base.proofs.PutLaws.{puts_then, puts_none, puts_as}
use Rattle.base.specs.Sets.{contains}
use Rattle.prospects.proofs.EntryLaws.{row-none, row_more, row-length, row_room}
use Rattle.prospects.proofs.entries.put_row.Goals as goal

pub loop-i-init : goal.loop-i-init
loop-i-init c = record { so_far = omega arith; kept = refl; puts = puts_none (row-none _ _ _ _) }

pub put_member-to-requires : goal.put_member-to-requires
put_member-to-requires c = let a = c.args in
    let x = c.loop-i in
    (omega arith, omega (arith, row_room (contains a.authors) a.block a.round a.start.0 x.i (omega arith), c.requires.1, x.invariant.kept, x.invariant.puts.past))

pub loop-i-preserved : goal.loop-i-preserved
loop-i-preserved c = let x = c.loop-i in
    let a = c.args in
    record {
      so_far = omega arith;
      kept = c.put_member-to.auto.list ∙ x.invariant.kept;
      puts = puts_as (row_more _ _ _ _ x.i) (omega (arith, row-length (contains a.authors) a.block a.round a.start.0 x.i)) (puts_then x.invariant.puts c.put_member-to.ensures);
    }
