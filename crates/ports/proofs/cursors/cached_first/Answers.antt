use Rattle.std.proofs.Common.{ap, ◌∙◌, arith, Some}
use Rattle.ports.proofs.SearchLaws.{first_next}
use Rattle.ports.proofs.cursors.cached_first.Goals as goal

pub returns-then-key-ceiling : goal.returns-then-key-ceiling
returns-then-key-ceiling c = let start = c.in-Some.ensures.0 in
    ap Some c.place_of.ensures ∙ rw start (first_next _ _ _ _ (omega arith) _ (rw start at c.first_key-key.ensures) (rw c.ceiling.view_is at c.if-key-ceiling.true))
