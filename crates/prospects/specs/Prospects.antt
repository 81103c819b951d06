-- What the blocks that a commit would make hold, told without making them: l has the authors of the anchors by round, 16 for none.
use Rattle.std.specs.Prelude.{Bool, false, if◌then◌else◌, not, ◌&&◌, ◌||◌, List, [], ◌++◌, ℕ, zero, suc, ◌+◌, ◌==◌, nat_lt, get_or}
use Rattle.base.specs.Sets.{only}
use Rattle.store.specs.Table.{mark_at}
use Rattle.blocks.specs.History.{in_history}
use Rattle.blocks.specs.Blocks.{count_after}
use Rattle.prospects.specs.Entries.{rows_entries}

module _ (t : List ℕ) where
  -- the certificate of author i and round q comes into the block of the anchor of author a and round r, where f tells what earlier anchors have reached: it is in its history, in none of theirs and in no block
  abbrev pub is_new : (ℕ → ℕ → Bool) → ℕ → ℕ → ℕ → ℕ → Bool
  is_new f a r i q = in_history t r (only a) i q && (not (f i q) && mark_at t i q == 0)

  -- the words of the entries of that block, where it is block k
  abbrev pub block_words : (ℕ → ℕ → Bool) → ℕ → ℕ → ℕ → List ℕ
  block_words f k a r = rows_entries (is_new f a r) k a 0 r

  module _ (l : List ℕ) where
    -- what the anchor of round r reaches, if there is one, beside what earlier ones have reached
    unfoldable pub reach_step : (ℕ → ℕ → Bool) → ℕ → ℕ → ℕ → Bool
    reach_step f r i q =
        f i q || (nat_lt (get_or l r 0) 16 && in_history t r (only (get_or l r 0)) i q)

    -- the words of its block, where there were k blocks
    unfoldable pub words_step : (ℕ → ℕ → Bool) → ℕ → ℕ → List ℕ
    words_step f r k =
        if nat_lt (get_or l r 0) 16 then block_words f (k + 1) (get_or l r 0) r
        else []

    module _ (m : ℕ) where
      -- what the anchors of the n rounds above m reach
      unfoldable pub reach_after : ℕ → ℕ → ℕ → Bool
      reach_after zero i q = false
      reach_after (suc n) i q = reach_step (reach_after n) (m + suc n) i q

      -- the words of their blocks, oldest first, where there were k blocks
      unfoldable pub words_after : ℕ → ℕ → List ℕ
      words_after zero k = []
      words_after (suc n) k =
          words_after n k ++ words_step (reach_after n) (m + suc n) (count_after l m n k)
