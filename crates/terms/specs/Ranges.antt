-- The ranges of the settings: checks 2 and 3 of open, which well-formed states pass as well.
use Rattle.std.specs.Prelude.{Bool, not, ◌||◌, List, ℕ, ◌≤◌, ◌<◌, get_or, nat_lt}
use Rattle.base.specs.Folds.{any_to}
use Rattle.terms.specs.declared.sheet.Weight.{Weight}
use Rattle.terms.specs.declared.sheet.Settings.{Settings}

-- a weight by its number
abbrev pub weight : ℕ → Weight
weight n = record { 0 = n }

-- the weight of member i, of sixteen
abbrev pub weight_in : List Weight → ℕ → ℕ
weight_in w i = (get_or w i (weight 0)).0

-- x is not from a to b
unfoldable pub not_within : ℕ → ℕ → ℕ → Bool
not_within x a b = nat_lt x a || nat_lt b x

-- check 2: a setting out of range
unfoldable pub out_of_range : Settings → Bool
out_of_range S =
    not_within S.lookback 1 1000
    || (not_within S.ceiling 3 1024
    || (not_within S.allowance 0 4
    || (any_to (λ i. not_within (weight_in S.weights i) 0 1000000) 16
    || not_within S.margin 3 5)))

-- check 3: no positive weight
unfoldable pub weightless : Settings → Bool
weightless S = not (any_to (λ i. nat_lt 0 (weight_in S.weights i)) 16)

-- the ranges that settings have which check 2 lets pass
pub record SettingsFit (S : Settings) : Type 0 where
  pub lookback_from : 1 ≤ S.lookback
  pub lookback_to : S.lookback ≤ 1000
  pub ceiling_from : 3 ≤ S.ceiling
  pub ceiling_to : S.ceiling ≤ 1024
  pub allowance_to : S.allowance ≤ 4
  pub weight_to : (i : ℕ) → i < 16 → weight_in S.weights i ≤ 1000000
  pub margin_from : 3 ≤ S.margin
  pub margin_to : S.margin ≤ 5
