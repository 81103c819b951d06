use Rattle.std.proofs.Common.{◌≡◌, refl, sym, ◌∙◌, arith, ne_eqb}
use Rattle.prospects.proofs.WalkLaws.{walk_begin, walk_step, walk_end, walk_reached, walk_none}
use Rattle.prospects.proofs.reaching.go_down.Goals as goal

pub loop-r-init : goal.loop-r-init
loop-r-init g c = rw c.top.view_is (walk_begin c.requires)

pub returns-then-is_subset : goal.returns-then-is_subset
returns-then-is_subset g c = walk_reached c.requires.earlier c.loop-r.invariant (sym c.is_subset.ensures ∙ c.if-is_subset.true)

pub returns-then-new-eq0 : goal.returns-then-new-eq0
returns-then-new-eq0 g c = walk_none c.requires.earlier c.loop-r.invariant c.new_of-new.ensures (rw (ne_eqb g.row.WHOLE 0 (omega arith)) refl) (omega arith)

pub loop-r-preserved : goal.loop-r-preserved
loop-r-preserved g c = rw (c.union.ensures, c.step_down-next.ensures) (walk_step (omega arith) c.requires.round c.loop-r.invariant c.new_of-new.ensures)

pub returns : goal.returns
returns g c = let e : c.loop-r.r ≡ 0 = omega arith in
    rw e at (walk_end c.requires.earlier c.loop-r.invariant (λ h. absurd (omega arith)))
