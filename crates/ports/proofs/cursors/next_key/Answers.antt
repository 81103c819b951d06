use Rattle.std.proofs.Common.{rules, arith}
use Rattle.std.proofs.lemmas.Iterator.{first_from_Range}
use Rattle.chain_committees.specs.Links.{Marked}
use Rattle.ports.specs.Next.{key_place}
use Rattle.ports.proofs.ExtentLaws.{key_above}
use Rattle.ports.proofs.cursors.next_key.Goals as goal

pub returns : goal.returns
returns c = let a = c.args in
    let found = first_from_Range _ _ _ _ (λ i. Marked a.chain.table.now a.block (key_place a.start.0 i)) (λ i. Marked a.chain.table.now a.block (key_place a.start.0 i) → ⊥) c.find.ensures.ran (λ x q k. search rules) (λ x q k. search rules) in
    let told = rw (← c.ceiling.view_is, ← c.top.view_is) at c.top-top.ensures in
    rw (c.unwrap_or.ensures, ← c.ceiling.view_is) (key_above told.above (omega arith) (omega (arith, told.to)) _ _ _ (omega (arith, c.requires.to.1)) found)
