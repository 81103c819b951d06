-- The sheet, and the settings that it is filled to: each blank by its default.
use Rattle.std.specs.Prelude.{if◌then◌else◌, List, ℕ, replicate, get_or, nat_lt}
use Rattle.base.specs.Folds.{tab}
use Rattle.terms.specs.declared.sheet.Setting.{Setting}
use Rattle.terms.specs.declared.sheet.Setting.TheVariants.{Blank, Written}
use Rattle.terms.specs.declared.sheet.Weight.{Weight}
use Rattle.terms.specs.declared.sheet.Sheet.{Sheet}
use Rattle.terms.specs.declared.sheet.Settings.{Settings}

-- the sheet with nothing written, and no rights
abbrev pub blank_sheet : Sheet
blank_sheet = record {
  lookback = Blank;
  ceiling = Blank;
  allowance = Blank;
  weights = replicate 16 Blank;
  margin = Blank;
  rights = record { 0 = 0 };
}

-- the number of a setting, d where it is blank
abbrev pub value_or : Setting → ℕ → ℕ
value_or Blank d = d
value_or (Written n) d = n

-- the weight of member i where it is blank: 1 for members 0 to 3
unfoldable pub blank_weight : ℕ → ℕ
blank_weight i = if nat_lt i 4 then 1 else 0

-- the starting weight of member i; a written 0 is no blank
unfoldable pub weight_at : List Setting → ℕ → ℕ
weight_at l i = value_or (get_or l i Blank) (blank_weight i)

-- the sixteen of them
abbrev pub starting_weights : List Setting → List Weight
starting_weights l = tab (λ i. record { 0 = weight_at l i }) 16

-- the filled settings
unfoldable pub filled : Sheet → Settings
filled s =
    record {
      lookback = value_or s.lookback 20;
      ceiling = value_or s.ceiling 1024;
      allowance = value_or s.allowance 4;
      weights = starting_weights s.weights;
      margin = value_or s.margin 3;
    }
