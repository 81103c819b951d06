use Rattle.base.proofs.PutLaws.{puts_then}
use Rattle.listing.proofs.lines.put_refused.Goals as goal

pub returns : goal.returns
returns c = puts_then (puts_then c.put_bytes-word.ensures c.put_field-number.ensures) c.put_bytes.ensures
