-- With whom the rows of blocks start, as a list by the number of blocks before.
use Rattle.std.specs.Prelude.{◌≡◌, List, ℕ, ◌<◌, ◌≤◌, get_or, length}
use Rattle.terms.specs.declared.sheet.Settings.{Settings}
use Rattle.chain_committees.specs.BlockChanges.{start_at}

-- of the blocks after the first m, up to block n, the starts are told
pub record StartsTold (S : Settings) (t : List ℕ) (m n : ℕ) (starts : List ℕ) : Type 0 where
  pub size : length starts ≡ 512
  pub told : (k : ℕ) → m ≤ k → k < n → get_or starts k 0 ≡ start_at S t k
