use Rattle.batch.proofs.BatchLaws.{batch-one}
use Rattle.batch.proofs.theorems.batch_of_one.Goals as goal

pub returns : goal.returns
returns c = batch-one
