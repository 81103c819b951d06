use Rattle.receiving.proofs.ReceivedLaws.{reads_a_prefix}
use Rattle.receiving.proofs.theorems.reads_a_prefix.Goals as goal

pub returns : goal.returns
returns c = reads_a_prefix
