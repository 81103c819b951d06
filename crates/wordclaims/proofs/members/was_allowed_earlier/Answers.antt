use Rattle.wordclaims.proofs.MemberLaws.{was_allowed_earlier}
use Rattle.wordclaims.proofs.members.was_allowed_earlier.Goals as goal

pub returns : goal.returns
returns c = was_allowed_earlier
