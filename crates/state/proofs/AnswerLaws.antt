-- Laws of answers: what a call leaves where it is accepted and where it is refused.
use Rattle.std.proofs.Common.{◌≡◌, refl, ◌≢◌, ℕ, eqb, eq-eqb, ne_eqb}
use Rattle.base.proofs.Bools.{cond_same}
use Rattle.state.specs.Answers.{if_accepted}

module _ {A : Type 0} (n : ℕ) (new old : A) where
  pub if_accepted-new : n ≡ 0 → if_accepted n new old ≡ new
  unfolding if_accepted
  if_accepted-new e = rw (eq-eqb n 0 e) refl

  pub if_accepted-old : n ≢ 0 → if_accepted n new old ≡ old
  unfolding if_accepted
  if_accepted-old h = rw (ne_eqb n 0 h) refl

pub if_accepted-same : {A : Type 0} (n : ℕ) (x : A) → if_accepted n x x ≡ x
unfolding if_accepted
if_accepted-same n x = cond_same (eqb n 0) x
