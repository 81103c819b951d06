use Rattle.base.proofs.PutLaws.{puts_then}
use Rattle.listing.proofs.lines.put_listing.Goals as goal

pub returns : goal.returns
returns c = let numbers = puts_then (puts_then (puts_then c.put_number-block_end.ensures c.put_field-block_round_end.ensures) c.put_field-round_end.ensures) c.put_field-author_end.ensures in
    rw (← c.block_round.view_is, ← c.round.view_is) (puts_then (puts_then numbers c.put_triples-triples_end.ensures) c.put_bytes.ensures)
