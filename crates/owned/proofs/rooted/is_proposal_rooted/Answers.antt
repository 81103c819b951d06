use Rattle.std.proofs.Common.{refl}
use Rattle.owned.proofs.TestingLaws.{tells-yes, names-none}
use Rattle.owned.proofs.rooted.is_proposal_rooted.Goals as goal

pub returns-in-None : goal.returns-in-None
returns-in-None c = rw c.in-None.is (tells-yes refl (names-none c.args.table.now c.args.state.now.round))
