-- What an accepted read of a committee has passed.
use Rattle.std.proofs.Common.{◌≡◌, refl, List, ℕ}
use Rattle.base.proofs.Words.{not-false}
use Rattle.base.proofs.CheckLaws.{numbered}
use Rattle.base.proofs.Passed.{passed}
use Rattle.state.specs.declared.State.{State}
use Rattle.state.specs.WellFormed.{well_formed}
use Rattle.state.specs.Formed.{Formed}
use Rattle.state.proofs.FormedLaws.{formed}
use Rattle.reads.specs.Reads.{committee_refusal}

pub committee-passed : (s : State) (t : List ℕ) (r : ℕ) → committee_refusal s t r ≡ 0 → Formed s t
unfolding committee_refusal numbered
committee-passed s t r e = passed _ refl e λ h1 h5 h8. formed s t (not-false (well_formed s t) h1)
