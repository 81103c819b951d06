use Rattle.std.proofs.Common.{ap, ◌∙◌, arith, Some}
use Rattle.ports.proofs.SearchLaws.{none_beyond, first_beyond}
use Rattle.ports.proofs.cursors.first_after.Goals as goal

pub returns-then-walk-next : goal.returns-then-walk-next
returns-then-walk-next c = none_beyond _ _ _ _ _ c.requires c.next_block-next.ensures.found c.if-walk-next.true

pub returns : goal.returns
returns c = let start = rw c.begin.ensures.chain at c.start-start.ensures.start in
    let key = rw c.begin.ensures.chain at c.first_key-key.ensures in
    ap Some c.place_of.ensures ∙ rw start (first_beyond _ _ _ _ _ c.requires c.next_block-next.ensures.found (omega arith) _ (rw start at key))
