use Rattle.terms.proofs.ProposalLaws.{same-content, content_self}
use Rattle.terms.proofs.theorems.same_when_equal.Goals as goal

pub returns-clause-equal : goal.returns-clause-equal
returns-clause-equal c = same-content

pub returns-clause-itself : goal.returns-clause-itself
returns-clause-itself c = content_self
