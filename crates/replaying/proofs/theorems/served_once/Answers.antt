use Rattle.replaying.proofs.OneOutcomeLaws.{told_same, told_undamaged, told_unrefused, one_reason, one_number}
use Rattle.replaying.proofs.theorems.served_once.Goals as goal

pub returns-clause-told : goal.returns-clause-told
returns-clause-told c = told_same

pub returns-clause-undamaged : goal.returns-clause-undamaged
returns-clause-undamaged c = told_undamaged

pub returns-clause-unrefused : goal.returns-clause-unrefused
returns-clause-unrefused c = told_unrefused

pub returns-clause-reason : goal.returns-clause-reason
returns-clause-reason c = one_reason

pub returns-clause-number : goal.returns-clause-number
returns-clause-number c = one_number
