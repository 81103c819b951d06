-- The walk over the table that finds a committee: what each level of it does, and when block rounds are in order.
use Rattle.std.specs.Prelude.{Bool, if◌then◌else◌, ◌&&◌, List, ℕ, ◌+◌, ◌/◌, ◌%◌, ◌==◌, nat_lt}
use Rattle.base.specs.Folds.{fold_to, all_to}
use Rattle.store.specs.Table.{block_round, count_at, transaction_at, content_at}
use Rattle.committee.specs.Chain.{holds_at, block_at, chain_of}
use Rattle.terms.specs.declared.sheet.Settings.{Settings}
use Rattle.committee.specs.Changes.{change, changes, changes_of, at_most_one}
use Rattle.committee.specs.Committees.{start_of, ordered}
use Rattle.terms.specs.declared.sheet.Weight.{Weight}

-- slot k of the record of a place, if a transaction is there
unfoldable pub slot_change : List ℕ → ℕ → ℕ → ℕ → List Weight → List Weight
slot_change t m r k w = if nat_lt k (count_at t m r) then change (transaction_at t m r k) w else w

-- place p, if block k holds it; the place of member m and round r is number 16 r + m
unfoldable pub place_change : List ℕ → ℕ → ℕ → List Weight → List Weight
place_change t k p w = changes_of (at_most_one (holds_at t k (p % 16) (p / 16))) w

-- the transactions of the record of place p
unfoldable pub record_change : List ℕ → ℕ → List Weight → List Weight
record_change t p w = changes (content_at t (p % 16) (p / 16)).transactions w

-- the leader of the round of the block after the first k, 16 for none
unfoldable pub start_at : Settings → List ℕ → ℕ → ℕ
start_at S t k = start_of S (block_at S.ceiling t (k + 1)) (chain_of S.ceiling t k)

-- the block after the first k
unfoldable pub block_change : Settings → List ℕ → ℕ → List Weight → List Weight
block_change S t k w =
    changes_of (ordered S (block_at S.ceiling t (k + 1)) (chain_of S.ceiling t k)) w

-- the first k blocks, oldest first
unfoldable pub after_blocks : Settings → List ℕ → ℕ → List Weight → List Weight
after_blocks S t k w = fold_to (block_change S t) k w

-- the round of the newest of the first k blocks, 0 for none
unfoldable pub last_round : List ℕ → ℕ → ℕ
last_round t k = if k == 0 then 0 else block_round t k

-- the block after the first k has an even round, above that of the block before and below the ceiling n
unfoldable pub block_fits : ℕ → List ℕ → ℕ → Bool
block_fits n t k = block_round t (k + 1) % 2 == 0
    && (nat_lt (last_round t k) (block_round t (k + 1)) && nat_lt (block_round t (k + 1)) n)

-- block rounds are even, rising and below the ceiling
unfoldable pub blocks_fit : ℕ → List ℕ → ℕ → Bool
blocks_fit n t blocks = all_to (block_fits n t) blocks
