-- Rights of callers: a word of four sets of callers, a byte each.
use Rattle.std.specs.Prelude.{Bool, ◌&&◌, not, [], ◌∷◌, ℕ, ◌+◌, ◌*◌, nat_lt}
use Rattle.base.specs.Checks.{Checks, refusal}
use Rattle.base.specs.Sets.{mem}
use Rattle.terms.specs.declared.sheet.Rights.{Rights}
use Rattle.terms.specs.declared.rights.Right.{Right}
use Rattle.terms.specs.declared.rights.Right.TheVariants.{Propose, Sign, Drive, Read}

-- the byte of a right
abbrev pub right_number : Right → ℕ
right_number Propose = 0
right_number Sign = 1
right_number Drive = 2
right_number Read = 3

-- caller c has right r; nobody above 7 has one
unfoldable pub may : Rights → Right → ℕ → Bool
may R r c = nat_lt c 8 && mem R.0 (8 * right_number r + c)

-- 26 caller above 7; 29 missing right
abbrev pub caller_checks : Rights → Right → ℕ → Checks
caller_checks R r c = (nat_lt 7 c, 26) ∷ (not (may R r c), 29) ∷ []

unfoldable pub caller_refusal : Rights → Right → ℕ → ℕ
caller_refusal R r c = refusal (caller_checks R r c)
