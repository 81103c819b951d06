use Rattle.std.proofs.Common.{refl, sym, ◌∙◌, arith}
use Rattle.base.specs.Puts.{Puts}
use Rattle.base.proofs.PutLaws.{puts_then, puts_none, puts_as}
use Rattle.critical.specs.Critical.{place_words, critical_at}
use Rattle.critical.proofs.PlaceLaws.{place_there, place_none, row-none, row_more}
use Rattle.critical.proofs.list_row.Goals as goal
use Rattle.critical.proofs.list_row.Goals.{then-is_critical, else-is_critical}

pub loop-i-init : goal.loop-i-init
loop-i-init c = record { same = refl; listed = record { so_far = omega arith; kept = refl; puts = puts_none (row-none _ _ _) } }

pub is_critical-requires : goal.is_critical-requires
is_critical-requires c = let l = c.loop-i.invariant in
    record { weighs = rw l.same c.requires.0; place = record { member = omega arith; near = c.requires.1.0 } }

pub loop-i-preserved : goal.loop-i-preserved
loop-i-preserved c = let l = c.loop-i.invariant in
    let x = rw l.same at c.is_critical.ensures.critical in
    let y = c.if-is_critical in
    let put : Puts c.loop-i.list y.list c.loop-i.to y.to (place_words (critical_at c.args.state.now c.args.table.now c.loop-i.i c.args.round)) 2 =
    elim y.branch [
      | then-is_critical w ↦ rw (w.list-is, w.to-is, place_there _ _ _ _ (sym x ∙ w.if-is_critical.true)) w.put_place-to.ensures
      | else-is_critical w ↦ rw (w.list-is, w.to-is) (puts_none (place_none _ _ _ _ (sym x ∙ w.if-is_critical.false)))
    ] in
    record {
      same = c.is_critical.ensures.table ∙ l.same;
      listed = record { so_far = omega arith; kept = y.auto.list ∙ l.listed.kept; puts = puts_as (row_more _ _ _ c.loop-i.i) (omega arith) (puts_then l.listed.puts put) };
    }
