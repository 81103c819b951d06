use Rattle.state.proofs.FormedLaws.{formed, first_row}
use Rattle.enqueue.proofs.enqueue_formed.Goals as goal

pub check-requires : goal.check-requires
check-requires c = first_row _ _ (formed _ _ c.requires)
