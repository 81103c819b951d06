use Rattle.batch.proofs.BatchLaws.{batch-empty}
use Rattle.batch.proofs.theorems.batch_of_none.Goals as goal

pub returns : goal.returns
returns c = batch-empty
