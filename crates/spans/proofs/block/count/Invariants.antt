use Rattle.std.proofs.Common.{◌≡◌, List, ℕ, ◌+◌, ◌*◌, ◌-◌, ◌≤◌}
use Rattle.base.specs.Folds.{sum_to}
use Rattle.chain_committees.proofs.RunLaws.{LinkedFrom}
use Rattle.spans.proofs.RowLaws.{held_count}
use Rattle.spans.proofs.block.count.Given as goal

-- p is the next place of block k, and those before it are counted
pub record Counting (t next : List ℕ) (k end c p : ℕ) : Type 0 where
  pub linked : LinkedFrom t next k p end p
  pub count : c + sum_to (held_count t k) 16 ≡ sum_to (held_count t k) p
  pub most : c ≤ p

abbrev pub invariant-loop-place : goal.invariant-loop-place
invariant-loop-place l = Counting l.walk.chain.table.now l.walk.next.now (l.before + 1) (l.walk.chain.settings.now.ceiling * 16 + 16) l.count l.place

abbrev pub decreases-loop-place : goal.decreases-loop-place
decreases-loop-place l = l.end - l.place
