use Rattle.std.proofs.Common.{sym}
use Rattle.serial.proofs.PassedLaws.{access_let}
use Rattle.serial.proofs.read_formed.Goals as goal

pub read-requires : goal.read-requires
read-requires c = let f = sym c.requires.cached.form in
    let p = access_let _ _ f _ _ c.in_ok-check_access.ensures in
    record { hints = record { committees = c.requires.cached.committees f; together = c.requires.together }; formed = p.opened; offset = p.offset }
