use Rattle.std.proofs.Common.{◌∙◌, arith}
use Rattle.critical.specs.Critical.{critical_places}
use Rattle.critical.proofs.PlaceLaws.{near_now, near_before, words-length, places_put}
use Rattle.critical.proofs.list_places.Goals as goal

pub overflow_sub-before : goal.overflow_sub-before
overflow_sub-before c = rw c.round.view_is c.requires.0.passes.timely.formed.numbers.round_from

pub list_row-row-requires : goal.list_row-row-requires
list_row-row-requires c = let p = c.requires in (p.0, (grind (arith, near_now, near_before, c.round.view_is), omega (arith, p.1)))

pub list_row-put-requires : goal.list_row-put-requires
list_row-put-requires c = let x = c.list_row-row in
    let p = x.ensures.1 in
    (rw x.ensures.0 c.requires.0, (grind (arith, near_now, near_before, c.round.view_is), omega (arith, c.requires.1, x.auto.list, p.past, p.room)))

pub returns : goal.returns
returns c = let x = c.list_row-row.ensures in
    let y = rw x.0 at c.list_row-put.ensures in
    let p = places_put c.args.state.now c.args.table.now (omega (arith, c.round.view_is)) (omega (arith, c.round.view_is)) x.1 y.1 in
    record { number = omega (arith, words-length (critical_places c.args.state.now c.args.table.now), p.past); table = c.list_row-put.ensures.0 ∙ x.0; list = p.bytes }
