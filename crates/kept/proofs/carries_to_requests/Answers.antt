use Rattle.kept.proofs.RunLaws as laws
use Rattle.kept.proofs.carries_to_requests.Goals as goal

pub returns : goal.returns
returns g c = λ X f l r. laws.carries_to_requests X g.P.Property.holds f l r
