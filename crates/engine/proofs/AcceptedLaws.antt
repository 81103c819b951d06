-- Every accepted call leaves a well-formed state, and its previous set is a 16-bit number.
use Rattle.std.proofs.Common.{◌≡◌, true}
use Rattle.state.specs.WellFormed.{well_formed}
use Rattle.engine.specs.Calls.{Call, InRange}
use Rattle.engine.specs.Engine.{Engine, refusal_for, after}
use Rattle.engine.specs.Steps.{SetInRange, Step, refused, opened, moved}
use Rattle.engine.proofs.StepLaws.{every_step}

pub record WellLeft (x : Engine) : Type 0 where
  pub formed : well_formed x.state x.table ≡ true
  pub set_in_range : SetInRange x

pub accepted-left : (e : Engine) → SetInRange e → (c : Call) → InRange c → refusal_for e c ≡ 0 → WellLeft (after e c)
accepted-left e low c r a = go (every_step e low c r)
  where
    go : Step e c → WellLeft (after e c)
    go (refused n h) = absurd (n a)
    go (opened own sheet q b f) = record { formed = f.formed; set_in_range = f.set_in_range }
    go (moved b w n) = record { formed = n.formed; set_in_range = n.set_in_range }
