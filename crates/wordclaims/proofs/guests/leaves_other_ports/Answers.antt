use Rattle.wordclaims.proofs.PortLaws.{form_leaves, batch_leaves}
use Rattle.wordclaims.proofs.guests.leaves_other_ports.Goals as goal

pub returns-clause-form : goal.returns-clause-form
returns-clause-form c = form_leaves

pub returns-clause-batch : goal.returns-clause-batch
returns-clause-batch c = batch_leaves
