-- What an answer with a number tells, and which number refuses.
use Rattle.std.proofs.Common.{◌≡◌, refl, sym, ap, ◌∙◌, eqb, not, true, List, ℕ, ne_eqb}
use Rattle.std.specs.Prelude.{Result, Ok, Err}
use Rattle.std.specs.Result.{is_err}
use Rattle.base.specs.Checks.{refusal}
use Rattle.base.proofs.CheckLaws.{passes, first_passes, numbered}
use Rattle.state.specs.declared.State.{State}
use Rattle.state.specs.WellFormed.{well_formed}
use Rattle.votes.specs.Checks.{vote_checks}
use Rattle.critical.specs.Critical.{late_checks, reading_critical, critical_refusal}
use Rattle.refusals.specs.declared.Refusal.{Refusal}
use Rattle.refusals.specs.Refusals.{number_of, refusal_in}
use Rattle.refusals.proofs.RefusalLaws.{some-number}

-- an answer refuses where it has a number
pub err_number : {A : Type 0} (r : Result A Refusal) → is_err r ≡ not (eqb (refusal_in r) 0)
err_number (Ok x) = refl
err_number (Err e) = ap not (sym (ne_eqb (number_of e) 0 (some-number e)))

-- after the checks before them, those of the votes decide
pub votes_decide : (s : State) (t : List ℕ) (words : ℕ) → well_formed s t ≡ true → refusal (late_checks s t words) ≡ 0 → critical_refusal s t words ≡ refusal (vote_checks s t)
unfolding critical_refusal numbered
votes_decide s t words e z = passes 1 (reading_critical s t words) (rw e refl) ∙ first_passes (late_checks s t words) (vote_checks s t) refl z
