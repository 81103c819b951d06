-- Members of a set by position, counted from 0 by rising number.
use Rattle.std.specs.Prelude.{Bool, ◌&&◌, if◌then◌else◌, ℕ, zero, suc, ◌==◌, Option, Some, None, unwrap_or}
use Rattle.base.specs.Folds.{sum_to}
use Rattle.base.specs.Sets.{mem}

-- how many of the set are below n
unfoldable pub count_below : (ℕ → Bool) → ℕ → ℕ
count_below set n = sum_to (λ i. if set i then 1 else 0) n

-- the one below n of the set at position k, counted from 0 by rising number
unfoldable pub member_below : (ℕ → Bool) → ℕ → ℕ → Option ℕ
member_below set zero k = None
member_below set (suc n) k =
    if set n && count_below set n == k then Some n
    else member_below set n k

-- of a set of eight members, the one at position p, 8 for none
unfoldable pub place_in : ℕ → ℕ → ℕ
place_in s p = unwrap_or (member_below (mem s) 8 p) 8
