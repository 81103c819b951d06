use Rattle.wordclaims.proofs.PortLaws.{host_leaves, host_batch_leaves}
use Rattle.wordclaims.proofs.guests.leaves_ports.Goals as goal

pub returns-clause-call : goal.returns-clause-call
returns-clause-call c = host_leaves

pub returns-clause-batch : goal.returns-clause-batch
returns-clause-batch c = host_batch_leaves
