use Rattle.agreement.proofs.ListingLaws as laws
use Rattle.agreement.proofs.theorems.listed_alike.Goals as goal

pub returns : goal.returns
returns g c = λ order c d h. laws.lists-comparable order h
