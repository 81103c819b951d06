-- Total weights.
use Rattle.std.specs.Prelude.{List, ℕ, ◌^◌, ◌<◌, ◌≤◌}
use Rattle.base.specs.Folds.{sum_to}
use Rattle.terms.specs.declared.sheet.Weight.{Weight}
use Rattle.terms.specs.Ranges.{weight_in}

-- the total weight of a committee
abbrev pub total_in : List Weight → ℕ
total_in w = sum_to (weight_in w) 16

-- light enough that no sum of weights overflows, nor a thousand times one: below this is every committee that a table tells
pub record TotalBounded (w : List Weight) : Type 0 where
  pub total : total_in w ≤ 2 ^ 49

-- member m has a share in the total: a weight of its own
pub record HasShare (w : List Weight) (m : ℕ) : Type 0 where
  pub member : m < 16
  pub weight : 0 < weight_in w m
