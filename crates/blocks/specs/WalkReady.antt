-- What a commit asks of the table, the leaders and what was seen, and what it gives; each level asks for those below it.
use Rattle.std.specs.Prelude.{◌≡◌, List, ℕ, ◌<◌, ◌≤◌, length}
use Rattle.store.specs.Table.{Row}
use Rattle.blocks.specs.Anchors.{taken_leaders}
use Rattle.blocks.specs.HistoryReady.{AnchorsReady}
use Rattle.blocks.specs.Blocks.{count_step, block_step, commit_table, commit_count}
use Rattle.blocks.specs.Seen.{Seen}

-- a history can be marked from round r down: its rows are there, and v has what earlier walks reached
pub record HistoryReady (t v : List ℕ) (r : ℕ) : Type 0 where
  pub row : Row t r
  pub round : r ≤ 1024
  pub seen : Seen t v v

-- block k can be made, of the anchor of author a and round r
pub record NewBlockReady (t v : List ℕ) (k a r : ℕ) : Type 0 where
  pub number : 0 < k
  pub room : Row t k
  pub author : a < 16
  pub history : HistoryReady t v r

-- the anchor of round r can make a block, where there are k; l has the authors of the anchors
pub record StepReady (t v l : List ℕ) (r k : ℕ) : Type 0 where
  pub few : k < r
  pub listed : r < length l
  pub history : HistoryReady t v r

-- how many blocks there are then, and the table
pub record StepMade (l : List ℕ) (r k : ℕ) (t₀ : List ℕ) (n : ℕ) (t v : List ℕ) : Type 0 where
  pub count : n ≡ count_step l r k
  pub table : t ≡ block_step l r k t₀
  pub seen : Seen t v v

-- so can those of the rounds above m up to top
pub record StepsReady (t v l : List ℕ) (m top k : ℕ) : Type 0 where
  pub few : k ≤ m
  pub above : m < top
  pub listed : top < length l
  pub history : HistoryReady t v top

-- and make blocks, where there are k
pub record CommitReady (t l : List ℕ) (m top k : ℕ) : Type 0 where
  pub few : k ≤ m
  pub round : top ≤ 1024
  pub anchors : AnchorsReady t l m top

-- how many blocks there are then, the table, and the leaders left
pub record CommitMade (l₀ : List ℕ) (m top k : ℕ) (t₀ : List ℕ) (n : ℕ)
    (t l : List ℕ) : Type 0 where
  pub count : n ≡ commit_count m top k l₀ t₀
  pub table : t ≡ commit_table m top k l₀ t₀
  pub leaders : l ≡ taken_leaders t₀ m top l₀
