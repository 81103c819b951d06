use Rattle.batch.proofs.BatchLaws.{batch-refused}
use Rattle.batch.proofs.theorems.batch_refused.Goals as goal

pub returns : goal.returns
returns c = batch-refused
