-- What the number of an answer tells.
use Rattle.std.proofs.Common.{◌≡◌, refl, sym, ◌∙◌, cond, ◌≢◌, ℕ, arith, eqb, eq-eqb, ne_eqb}
use Rattle.std.specs.Prelude.{Result, Ok, Err, IfOk}
use Rattle.refusals.specs.declared.Refusal.{Refusal}
use Rattle.refusals.specs.declared.Refusal.TheVariants.{Malformed}
use Rattle.refusals.specs.Refusals.{number_of, refusal_in, value_in}

-- no refusal has the number 0
pub some-number : (e : Refusal) → number_of e ≢ 0
some-number Malformed z = absurd (omega arith)
some-number c z = absurd (omega arith)

-- the value is the one given where the call is accepted, and 0 elsewhere
pub value_in_lem : (n v : ℕ) (r : Result ℕ Refusal) → refusal_in r ≡ n → IfOk r (λ x. x ≡ v) → value_in r ≡ cond (eqb n 0) v 0
value_in_lem n v (Ok x) h q = rw (eq-eqb n 0 (sym h)) q
value_in_lem n v (Err e) h q = rw (ne_eqb n 0 (λ z. some-number e (h ∙ z))) refl
