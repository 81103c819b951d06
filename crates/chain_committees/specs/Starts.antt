-- Where the order of each block starts, as far as it is written while blocks are applied one by one.
use Rattle.std.specs.Prelude.{◌≡◌, List, ℕ, ◌+◌, ◌<◌, ◌≤◌, get_or, length}
use Rattle.store.specs.Table.{block_round}
use Rattle.terms.specs.declared.sheet.Settings.{Settings}
use Rattle.chain_committees.specs.BlockChanges.{start_at, last_round}

-- the first k blocks are applied, and the starts of the first f are written: at least of those up to lookback rounds after the last one applied
pub record Started (S : Settings) (t : List ℕ) (blocks k f : ℕ) (starts : List ℕ) : Type 0 where
  pub size : length starts ≡ 512
  pub from : k ≤ f
  pub to : f ≤ blocks
  pub written : (i : ℕ) → i < f → get_or starts i 0 ≡ start_at S t i
  pub ahead : 0 < k → f < blocks → last_round t k + S.lookback < block_round t (f + 1)

-- the start of the block after the first k is written, and those of the blocks up to lookback rounds after it
pub record StartsAhead (S : Settings) (t : List ℕ) (blocks k f : ℕ) (starts : List ℕ) : Type 0 where
  pub started : Started S t blocks k f starts
  pub own : k < f
  pub ahead : f < blocks → block_round t (k + 1) + S.lookback < block_round t (f + 1)
