use Rattle.engine.proofs.GuestLaws.{guest-opens-none}
use Rattle.engine.proofs.theorems.guests_never_open.Goals as goal

pub returns : goal.returns
returns c = guest-opens-none
