use Rattle.blocks.proofs.SeenLaws.{see_is, seen_begin, seen_step}
use Rattle.std.proofs.Common.{refl, sym, ◌∙◌, arith}
use Rattle.blocks.proofs.BlockLaws.{history_step}
use Rattle.blocks.proofs.marks.mark_history.Goals as goal

pub loop-r-init : goal.loop-r-init
loop-r-init c = let h = rw (← c.top.view_is) at c.requires.0 in (omega arith, refl, seen_begin _ _ _ _ h.round h.seen)

pub loop-r-preserved : goal.loop-r-preserved
loop-r-preserved c = let i = c.loop-r in
    let z = c.loop-r-test.true in
    let rest = sym (history_step c.args.block i.r i.here i.table z) ∙ i.invariant.1 in
    let seen = seen_step c.args.block i.r i.here i.table i.seen c.requires.1 z (omega arith) (omega arith) i.invariant.2 in
    rw (c.step_down-next.ensures, c.mark_row.ensures, see_is i.seen i.r i.here _ c.union.ensures) (omega arith, rest, seen)
