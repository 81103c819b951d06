use Rattle.std.proofs.Common.{◌≡◌, ℕ, ◌≤◌, List}
use Rattle.chain_committees.specs.BlockChanges.{place_change}
use Rattle.chain_committees.specs.LinkRuns.{rows_over}
use Rattle.terms.specs.declared.sheet.Weight.{Weight}
use Rattle.owned.proofs.applied.apply_block.Given as goal

-- the rows up to that of round q are applied
pub record RowsDone (t : List ℕ) (b a r : ℕ) (w₀ w : List Weight) (q : ℕ) : Type 0 where
  pub to : q ≤ r
  pub weights : w ≡ rows_over (place_change t b) a q w₀

abbrev pub invariant-loop-q : goal.invariant-loop-q
invariant-loop-q l = RowsDone l.table l.fn.span.block l.fn.span.start.0 l.fn.span.top l.initial.weights l.weights l.q
