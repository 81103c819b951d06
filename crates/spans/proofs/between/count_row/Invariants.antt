use Rattle.std.proofs.Common.{◌≡◌, List, ℕ, ◌+◌, ◌*◌, ◌/◌, ◌≤◌}
use Rattle.base.specs.Folds.{sum_to}
use Rattle.spans.proofs.RowLaws.{held_count}
use Rattle.spans.proofs.between.count_row.Given as goal

-- the first i places of row r are counted
pub record Counted (t : List ℕ) (k r i c : ℕ) : Type 0 where
  pub so_far : i ≤ 16
  pub count : c ≡ sum_to (λ i. held_count t k (r * 16 + i)) i
  pub most : c ≤ i

abbrev pub invariant-loop-i : goal.invariant-loop-i
invariant-loop-i l = Counted l.table l.block (l.place / 16) l.i l.count
