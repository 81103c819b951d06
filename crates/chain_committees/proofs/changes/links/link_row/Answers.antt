use Rattle.std.proofs.Common.{sym, ◌∙◌, arith, ◌+◌}
use Rattle.chain_committees.proofs.LinkLaws.{links_empty}
use Rattle.chain_committees.proofs.changes.links.link_row.Goals as goal

pub returns-then-held_set-eq0 : goal.returns-then-held_set-eq0
returns-then-held_set-eq0 c = λ a e h s. links_empty _ a (sym c.held_set.ensures ∙ c.if-held_set-eq0.true) h s

pub loop-i-preserved : goal.loop-i-preserved
loop-i-preserved c = λ a e h s. c.link_place.ensures a e (omega arith) (c.loop-i.invariant (a + 1) e (omega arith) s)

pub returns : goal.returns
returns c = λ a e h s. c.loop-i.invariant a e (omega arith) (rw h at s)
