use Rattle.wordclaims.proofs.PortLaws.{reads_a_prefix}
use Rattle.wordclaims.proofs.guests.reads_a_prefix.Goals as goal

pub returns : goal.returns
returns c = reads_a_prefix
