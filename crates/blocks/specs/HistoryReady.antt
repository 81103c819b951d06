-- What the functions ask for.
use Rattle.std.specs.Prelude.{List, ℕ, ◌<◌, length, get_or}
use Rattle.store.specs.Table.{Row}

-- the anchors between m and top can be taken, where that of top is
pub record AnchorsReady (t l : List ℕ) (m top : ℕ) : Type 0 where
  pub above : m < top
  pub row : Row t top
  pub listed : top < length l
  pub member : get_or l top 0 < 16
