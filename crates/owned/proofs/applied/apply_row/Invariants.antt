use Rattle.std.proofs.Common.{◌≡◌, ℕ, ◌+◌, ◌*◌, ◌%◌, ◌≤◌, List}
use Rattle.base.specs.Folds.{fold_to}
use Rattle.committee.specs.Totals.{total_in}
use Rattle.chain_committees.specs.BlockChanges.{place_change}
use Rattle.terms.specs.declared.sheet.Weight.{Weight}
use Rattle.owned.proofs.applied.apply_row.Given as goal

-- the first i places from member a on are applied
pub record PlacesDone (t : List ℕ) (b a r : ℕ) (w₀ w : List Weight) (i : ℕ) : Type 0 where
  pub to : i ≤ 16
  pub weights : w ≡ fold_to (λ m. place_change t b (r * 16 + (a + m) % 16)) i w₀
  pub total : total_in w ≤ total_in w₀ + i * 17179869180

abbrev pub invariant-loop-i : goal.invariant-loop-i
invariant-loop-i l = PlacesDone l.table l.block l.start.0 l.round l.initial.weights l.weights l.i
