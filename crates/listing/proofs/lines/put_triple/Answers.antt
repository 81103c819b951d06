use Rattle.base.proofs.PutLaws.{puts_then}
use Rattle.listing.proofs.lines.put_triple.Goals as goal

pub returns : goal.returns
returns c = let kind = puts_then c.put_byte-comma.ensures c.put_byte-kind.ensures in
    rw (← c.letter.ensures, ← c.number.ensures, ← c.amount.ensures) (puts_then (puts_then kind c.put_field-number.ensures) c.put_field.ensures)
