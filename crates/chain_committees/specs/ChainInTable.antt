-- What the walk over the table relies on, which a well-formed state gives; and a committee after the first blocks.
use Rattle.std.specs.Prelude.{◌≡◌, true, List, ℕ, ◌*◌, ◌<◌, ◌≤◌}
use Rattle.store.specs.Table.{Row}
use Rattle.terms.specs.declared.sheet.Settings.{Settings}
use Rattle.committee.specs.Committees.{MarginFits}
use Rattle.committee.specs.Totals.{total_in}
use Rattle.chain_committees.specs.BlockChanges.{after_blocks, last_round, blocks_fit}
use Rattle.terms.specs.declared.sheet.Weight.{Weight}

pub record ChainInTable (S : Settings) (t : List ℕ) (blocks : ℕ) : Type 0 where
  pub ceiling : S.ceiling ≤ 1024
  pub long : Row t S.ceiling
  pub few : 2 * blocks < S.ceiling
  pub rounds : blocks_fit S.ceiling t blocks ≡ true
  pub total : total_in S.weights ≤ 16000000
  pub margin : MarginFits S.margin

-- the starting weights, changed by the first k blocks, none of which has a round above q
pub record AfterBlocks (S : Settings) (t : List ℕ) (blocks q k : ℕ) (w : List Weight) : Type 0 where
  pub within : k ≤ blocks
  pub passed : last_round t k ≤ q
  pub weights : w ≡ after_blocks S t k S.weights

-- w is what the first k blocks leave of the starting weights, whatever their rounds
abbrev pub AfterFirst : Settings → List ℕ → ℕ → ℕ → List Weight → Type 0
AfterFirst S t blocks k w = AfterBlocks S t blocks 1024 k w
