use Rattle.kept.proofs.KeptLaws.{leaves_as_calls}
use Rattle.kept.proofs.leaves_as_calls.Goals as goal

pub returns : goal.returns
returns c = leaves_as_calls
