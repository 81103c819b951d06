use Rattle.replies.proofs.ReadBack.{read_back}
use Rattle.replies.proofs.theorems.numbers_read_back.Goals as goal

pub returns : goal.returns
returns c = read_back
