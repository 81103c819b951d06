-- What is written by an answer.
use Rattle.std.specs.Prelude.{List, ℕ, Result, Ok, Err}
use Rattle.std.proofs.Math.Seq.{paste}
use Rattle.refusals.specs.declared.Refusal.{Refusal}

-- n words put over a stretch where a call is accepted
abbrev pub over : {A : Type 0} → Result A Refusal → List ℕ → List ℕ → ℕ → List ℕ
over (Ok x) old new n = paste old 0 new n
over (Err e) old new n = old
