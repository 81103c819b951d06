-- Laws of rights: there are four; a caller with the right is refused by no number, one without it by 26 or 29.
use Rattle.std.proofs.Common.{◌≡◌, refl, sym, ap, ◌∙◌, Bool, true, false, not, cond, true≢false, [], ◌∷◌, ◌≢◌, ℕ, ◌<◌, arith, eqb, ltb, ltb-true, le-ltb}
use Rattle.base.specs.Checks.{refusal}
use Rattle.base.proofs.Bools.{both}
use Rattle.base.proofs.CheckLaws.{passes, passes-all}
use Rattle.terms.specs.declared.sheet.Rights.{Rights}
use Rattle.terms.specs.declared.rights.Right.{Right}
use Rattle.terms.specs.declared.rights.Right.TheVariants.{Propose, Sign, Drive, Read}
use Rattle.terms.specs.Rights.{right_number, may, caller_refusal}

pub four : (r : Right) → right_number r < 4
four Propose = omega arith
four Sign = omega arith
four Drive = omega arith
four Read = omega arith

-- the right of a number
abbrev right_at : ℕ → Right
right_at n = cond (eqb n 0) Propose (cond (eqb n 1) Sign (cond (eqb n 2) Drive Read))

at_number : (r : Right) → right_at (right_number r) ≡ r
at_number Propose = refl
at_number Sign = refl
at_number Drive = refl
at_number Read = refl

-- and no two have the same number
pub same_right : (r q : Right) → right_number r ≡ right_number q → r ≡ q
same_right r q e = sym (at_number r) ∙ ap right_at e ∙ at_number q

module _ (R : Rights) (r : Right) (c : ℕ) where
  -- who has a right is one of the eight
  may-small : may R r c ≡ true → c < 8
  unfolding may
  may-small h = ltb-true c 8 (both (ltb c 8) _ h).0

  pub allowed : may R r c ≡ true → caller_refusal R r c ≡ 0
  unfolding caller_refusal
  allowed h = let l = may-small h in passes 26 _ (le-ltb 7 c (omega arith)) ∙ passes 29 _ (rw h refl) ∙ passes-all

  pub barred : may R r c ≡ false → caller_refusal R r c ≢ 0
  unfolding caller_refusal refusal
  barred h = go (ltb 7 c) (not (may R r c)) (rw h refl)
    where
      go : (a b : Bool) → b ≡ true → refusal ((a, 26) ∷ (b, 29) ∷ []) ≢ 0
      go true b e q = omega arith
      go false true e q = omega arith
      go false false e q = true≢false (sym e)
