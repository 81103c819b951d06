use Rattle.wordclaims.proofs.MemberLaws.{starts_with_anchor}
use Rattle.wordclaims.proofs.members.starts_with_anchor.Goals as goal

pub returns : goal.returns
returns c = starts_with_anchor
