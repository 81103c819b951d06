use Rattle.std.proofs.Common.{rules}
use Rattle.std.proofs.lemmas.Iterator.{first_from_Range}
use Rattle.chain_committees.specs.Links.{Marked}
use Rattle.ports.proofs.rows.first_marked.Goals as goal

pub returns : goal.returns
returns c = let a = c.args in
    rw (← c.round.view_is) (first_from_Range _ _ _ _ (λ i. Marked a.table.now a.block i) (λ i. Marked a.table.now a.block i → ⊥) c.find.ensures.ran (λ x q k. search rules) (λ x q k. search rules))
