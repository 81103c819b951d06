use Rattle.spans.proofs.WordLaws.{place_room, place_put}
use Rattle.spans.proofs.block.put_place.Goals as goal

pub put_held-requires : goal.put_held-requires
put_held-requires c = let a = c.args in
    let m = c.is_held.ensures.yes c.if-is_held.true in
    place_room a.table.now a.block a.place a.at a.list.now m.held m.mark c.requires.room

pub returns-then-is_held : goal.returns-then-is_held
returns-then-is_held c = let a = c.args in
    let m = c.is_held.ensures.yes c.if-is_held.true in
    place_put a.table.now a.block a.place m.held m.mark c.proposal_at-proposal.ensures c.endorsers-endorsers.ensures c.put_held.ensures
