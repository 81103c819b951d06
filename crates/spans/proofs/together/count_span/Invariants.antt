use Rattle.std.proofs.Common.{◌≡◌, List, ℕ, ◌*◌, ◌≤◌}
use Rattle.committee.specs.Chain.{chain_of}
use Rattle.terms.specs.declared.sheet.Settings.{Settings}
use Rattle.spans.specs.Spans.{count_after}
use Rattle.spans.proofs.together.count_span.Given as goal

-- the first i of n blocks are counted
pub record Counted (S : Settings) (t : List ℕ) (blocks m n i c : ℕ) : Type 0 where
  pub so_far : i ≤ n
  pub count : c ≡ count_after S (chain_of S.ceiling t blocks) m i
  pub most : c ≤ 16400 * i

abbrev pub invariant-loop-i : goal.invariant-loop-i
invariant-loop-i l = let c = l.chain in Counted c.settings.now c.table.now c.blocks l.known l.number l.i l.count
