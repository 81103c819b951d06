use Rattle.replies.proofs.CachedLaws.{closed-unformed}
use Rattle.replies.proofs.theorems.closed_is_malformed.Goals as goal

pub returns : goal.returns
returns c = closed-unformed
