-- The runner's table serves ceilings up to 64, and no other.
use Rattle.std.proofs.Common.{◌≡◌, refl, Bool, true, false, List, [], ◌∷◌, ℕ, length, ltb, ltb-true, lt-ltb, arith}
use Rattle.std.proofs.lemmas.Bool.{false≢true}
use Rattle.base.specs.Checks.{refusal}
use Rattle.terms.specs.declared.Member.{Member}
use Rattle.terms.specs.declared.sheet.Settings.{Settings}
use Rattle.terms.specs.Ranges.{out_of_range, weightless}
use Rattle.store.specs.Table.{used_length}
use Rattle.serving.specs.Lengths.{table_length}
use Rattle.open.specs.Open.{open_refusal}
use Rattle.serving.specs.Ceilings.{ServesTo64}

-- the last of four checks answers 1 where those before it let pass
last-answers : (a b c d : Bool) → refusal ((a, 4) ∷ (b, 2) ∷ (c, 3) ∷ []) ≡ 0 → d ≡ true → refusal ((a, 4) ∷ (b, 2) ∷ (c, 3) ∷ (d, 1) ∷ []) ≡ 1
unfolding refusal
last-answers true b c d p e = absurd (omega (arith, p))
last-answers false true c d p e = absurd (omega (arith, p))
last-answers false false true d p e = absurd (omega (arith, p))
last-answers false false false true p e = refl
last-answers false false false false p e = absurd (false≢true e)

only-last : (a b c d : Bool) → refusal ((a, 4) ∷ (b, 2) ∷ (c, 3) ∷ (d, 1) ∷ []) ≡ 1 → (refusal ((a, 4) ∷ (b, 2) ∷ (c, 3) ∷ []) ≡ 0) × (d ≡ true)
unfolding refusal
only-last true b c d p = absurd (omega (arith, p))
only-last false true c d p = absurd (omega (arith, p))
only-last false false true d p = absurd (omega (arith, p))
only-last false false false true p = (refl, refl)
only-last false false false false p = absurd (omega (arith, p))

pub serves_to_64 : (t : List ℕ) → length t ≡ table_length → (own : Member) (S : Settings) → ServesTo64 t own S
unfolding open_refusal
serves_to_64 t l own S =
    let short = ltb (length t) (used_length S.ceiling) in
    record {
      above = λ p h. last-answers (ltb 15 own.0) (out_of_range S) (weightless S) short p (lt-ltb (length t) (used_length S.ceiling) (omega (arith, l, h)));
      only_above = λ p.
          let q = only-last (ltb 15 own.0) (out_of_range S) (weightless S) short p in
          let k = ltb-true (length t) (used_length S.ceiling) q.1 in
          (q.0, omega (arith, l, k));
    }
