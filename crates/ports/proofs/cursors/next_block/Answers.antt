use Rattle.std.proofs.Common.{rules, ◌+◌, ◌*◌, ◌<◌, get_or, arith, tests}
use Rattle.std.proofs.lemmas.Iterator.{first_from_Range}
use Rattle.ports.proofs.FoundLaws.{block_found}
use Rattle.ports.proofs.cursors.next_block.Goals as goal

pub returns-clause-found : goal.returns-clause-found
returns-clause-found c = let w = c.args.walk.now in
    let n = c.ceiling.inside.0 in
    let found = first_from_Range _ _ _ _ (λ j. get_or w.head j 0 < n * 16 + 16) (λ j. get_or w.head j 0 < n * 16 + 16 → ⊥)
    c.find.ensures.ran (λ x q k. search (rules, tests)) (λ x q k. search (rules, tests)) in
    let linked = rw (← c.ceiling.view_is) at w.linked in
    rw (c.unwrap_or.ensures, ← c.ceiling.view_is)
    (block_found _ _ _ _ _ _ _ _ _ (omega (arith, w.chain.told.few, w.chain.told.ceiling)) c.requires (omega arith) (omega arith) found linked)
