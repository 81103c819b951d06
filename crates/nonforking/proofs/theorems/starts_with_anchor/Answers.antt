use Rattle.nonforking.proofs.AnchorStarts.{starts_with_anchor}
use Rattle.nonforking.proofs.theorems.starts_with_anchor.Goals as goal

pub returns : goal.returns
returns c = starts_with_anchor
