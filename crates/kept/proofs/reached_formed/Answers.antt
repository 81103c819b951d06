use Rattle.kept.proofs.KeptLaws.{reached_formed_then}
use Rattle.kept.proofs.reached_formed.Goals as goal

pub returns : goal.returns
returns c = reached_formed_then
