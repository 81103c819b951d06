-- The ceilings that a table serves.
use Rattle.std.specs.Prelude.{◌≡◌, List, ℕ, ◌<◌, take}
use Rattle.base.specs.Checks.{refusal}
use Rattle.terms.specs.declared.Member.{Member}
use Rattle.terms.specs.declared.sheet.Settings.{Settings}
use Rattle.open.specs.Open.{opening, open_refusal}

-- on table t an open answers 1 exactly where, after checks 4, 2 and 3, the ceiling is above 64
pub record ServesTo64 (t : List ℕ) (own : Member) (S : Settings) : Type 0 where
  pub above : refusal (take 3 (opening t own S)) ≡ 0 → 64 < S.ceiling → open_refusal t own S ≡ 1
  pub only_above : open_refusal t own S ≡ 1 → (refusal (take 3 (opening t own S)) ≡ 0)
      × (64 < S.ceiling)
