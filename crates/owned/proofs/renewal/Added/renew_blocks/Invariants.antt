use Rattle.std.proofs.Common.{◌≡◌, List, ℕ, ◌+◌, ◌-◌, ◌≤◌, length}
use Rattle.terms.specs.declared.sheet.Weight.{Weight}
use Rattle.chain_committees.specs.ChainInTable.{AfterBlocks}
use Rattle.chain_committees.specs.Told.{blocks_in}
use Rattle.blocks.specs.Blocks.{count_after}
use Rattle.owned.specs.declared.renewal.Added.{Added}
use Rattle.owned.specs.Renewal.{KeptTo}
use Rattle.owned.proofs.renewal.Added.renew_blocks.Given as goal

-- the blocks up to round q are applied, and the committees up to that of the round after them are kept
pub record BlocksDone (a : Added) (stop : ℕ) (kept₀ : List ℕ) (n : ℕ) (w : List Weight) (kept : List ℕ) (q : ℕ) : Type 0 where
  pub from : a.last ≤ q
  pub to : q ≤ stop
  pub count : n ≡ count_after a.leaders.now a.last (q - a.last) a.earlier
  pub after : AfterBlocks a.chain.settings.now a.chain.table.now a.chain.blocks q n w
  pub cached : KeptTo a.chain.settings.now (blocks_in a.chain) (a.chain.settings.now.lookback + q + 2) kept
  pub size : length kept ≡ length kept₀

abbrev pub invariant-loop-q : goal.invariant-loop-q
invariant-loop-q l = BlocksDone l.self l.fn.stop l.initial.kept l.count l.weights l.kept l.q
