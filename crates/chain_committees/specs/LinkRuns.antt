-- Places one after the other: those of a block are linked by next, rising; each of its rows is taken from a member on, with 0 after 15. The place of member m and round r is number 16 r + m.
use Rattle.std.specs.Prelude.{if◌then◌else◌, List, ℕ, zero, suc, ◌+◌, ◌*◌, ◌/◌, ◌%◌, get_or, nat_le, nat_lt}
use Rattle.base.specs.Folds.{fold_to}

module _ {A : Type 0} (f : ℕ → A → A) where
  -- ---- along the links

  -- what f does at the places from q on, going by next, at most n of them: at those below z and not below y
  unfoldable pub run_over : List ℕ → ℕ → ℕ → ℕ → ℕ → A → A
  run_over next y z zero q x = x
  run_over next y z (suc n) q x =
      if nat_lt q z then run_over next y z n (get_or next q 0) (if nat_le y q then f q x else x)
      else x

  -- and at those of the row of place p: from member a on, then those below it
  unfoldable pub row_over : List ℕ → ℕ → ℕ → A → A
  row_over next a p x =
      run_over next (p / 16 * 16) (p / 16 * 16 + a) 16 p
      (run_over next (p / 16 * 16 + a) (p / 16 * 16 + 16) 16 p x)

  -- ---- place by place

  -- what f does at each place of round r, from member a on, with 0 after 15
  unfoldable pub places_over : ℕ → ℕ → A → A
  places_over a r x = fold_to (λ m. f (r * 16 + (a + m) % 16)) 16 x

  -- and of the rounds 1 to n
  unfoldable pub rows_over : ℕ → ℕ → A → A
  rows_over a n x = fold_to (λ r. places_over a (r + 1)) n x

-- where the first such place at or above z lies, going by next
unfoldable pub run_end : List ℕ → ℕ → ℕ → ℕ → ℕ
run_end next z zero q = q
run_end next z (suc n) q = if nat_lt q z then run_end next z n (get_or next q 0) else q
