-- After an accepted call the state that the words give, with the table, is well formed: the next call does not refuse it with 1.
use Rattle.std.proofs.Common.{◌≡◌, Bool, true, List, ℕ}
use Rattle.state.specs.WellFormed.{well_formed}
use Rattle.engine.specs.Calls.{Call}
use Rattle.words.specs.States.{state_in}
use Rattle.hosting.specs.Handed.{Handed}
use Rattle.hosting.specs.Calls.{result_of}
use Rattle.hosting.proofs.CallLaws.{accepted-call}
use Rattle.hosting.proofs.NextLaws.{well-left, accepted-gives}

-- every accepted call
pub accepted-formed : (w t o : List ℕ) {b : Bool} {c : Call} → Handed b c → (result_of w t o b c).refusal ≡ 0 → well_formed (state_in (result_of w t o b c).state) (result_of w t o b c).table ≡ true
accepted-formed w t o {b} {c} h z = let a = accepted-call w t o b c z in rw ((accepted-gives w t o h z).gives, a.its_table) (well-left w t o h a).formed
