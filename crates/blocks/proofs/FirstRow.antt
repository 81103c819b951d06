-- A commit leaves row 0.
use Rattle.std.proofs.Common.{Bool, true, false, cond, List, ℕ, zero, suc, ◌<◌, ◌≤◌, arith, eqb, get_or}
use Rattle.base.specs.Sets.{contains, only}
use Rattle.base.proofs.FoldLaws.{fold_kept}
use Rattle.store.specs.Table.{mark_at}
use Rattle.store.specs.Writes.{set_mark}
use Rattle.store.proofs.FirstRow.{SameFirst, first-same, same_then, set-mark-first, set-block-first}
use Rattle.blocks.specs.History.{below}
use Rattle.blocks.specs.Anchors.{taken_leaders}
use Rattle.blocks.specs.Blocks.{mark_place, mark_row, mark_history, add_block, commit_table}
use Rattle.blocks.proofs.CommitLaws.{commit-each}

place-first : (b s r a : ℕ) (t : List ℕ) → 0 < r → SameFirst t (mark_place b s r a t)
unfolding mark_place
place-first b s r a t h = go (contains s a) (eqb (mark_at t a r) 0)
  where
    go : (x y : Bool) → SameFirst t (cond x (cond y (set_mark t a r b) t) t)
    go true true = set-mark-first t a r b h
    go true false = first-same t
    go false y = first-same t

row_first : (b s r : ℕ) (t : List ℕ) → 0 < r → SameFirst t (mark_row b s r t)
unfolding mark_row
row_first b s r t h j l = fold_kept (λ (u : List ℕ). get_or u j 0) (mark_place b s r) (λ a u. place-first b s r a u h j l) 16 t

history-first : (b r s : ℕ) (t : List ℕ) → SameFirst t (mark_history b r s t)
unfolding mark_history
history-first b zero s t = first-same t
history-first b (suc r) s t =
    let u = mark_row b s (suc r) t in
    same_then t u (mark_history b (suc r) s t) (row_first b s (suc r) t (omega arith)) (history-first b r (below t s (suc r)) u)

block-first : (k a r : ℕ) (t : List ℕ) → 0 < k → SameFirst t (add_block k a r t)
unfolding add_block
block-first k a r t h = let u = mark_history k r (only a) t in same_then t u (add_block k a r t) (history-first k r (only a) t) (set-block-first u k r h)

-- a commit of the anchor of round top, where k blocks were made and the last of them was of round m
pub commit-first : (m top k : ℕ) (l t : List ℕ) → k ≤ m → m < top → SameFirst t (commit_table m top k l t)
commit-first m top k l t low above =
    commit-each m top k l t low above (λ r c u. SameFirst t u) (first-same t)
    (λ r c u s i _ p. let a = get_or (taken_leaders t m top l) (suc r) 0 in same_then t u (add_block (suc c) a (suc r) u) p (block-first (suc c) a (suc r) u (omega arith)))
    (λ r c u s i _ p. p)
