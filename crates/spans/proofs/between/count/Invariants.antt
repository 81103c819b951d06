use Rattle.std.proofs.Common.{◌≡◌, List, [], ℕ, ◌*◌, ◌≤◌, length}
use Rattle.chain_committees.specs.BlockChanges.{start_at}
use Rattle.chain_committees.specs.LinkRuns.{rows_over}
use Rattle.spans.specs.Rows.{add_held}
use Rattle.spans.proofs.between.count.Given as goal

-- what block k holds up to round q, of n, is counted: each row from member a on
pub record Counted (t : List ℕ) (k a n q c : ℕ) : Type 0 where
  pub to : q ≤ n
  pub count : c ≡ length (rows_over (add_held t k) a q [])
  pub most : c ≤ 16 * q

abbrev pub invariant-loop-q : goal.invariant-loop-q
invariant-loop-q l = let c = l.chain in Counted c.table.now l.block (start_at c.settings.now c.table.now l.before) c.settings.now.ceiling l.q l.count
