use Rattle.earlier.proofs.RefusingLaws as laws
use Rattle.earlier.proofs.theorems.carries_over.Goals as goal

pub returns : goal.returns
returns g c = λ E D R X f l r. laws.carries_over E D R X g.P.Property.holds f l r
