-- What is asked where a part of the table is applied to a committee w: that it is there, and that w is light enough for no weight to overflow.
use Rattle.std.specs.Prelude.{◌≡◌, List, ℕ, ◌+◌, ◌-◌, ◌*◌, ◌^◌, ◌/◌, ◌<◌, ◌≤◌, length}
use Rattle.store.specs.Table.{Row, Within, count_at}
use Rattle.committee.specs.Totals.{total_in}
use Rattle.chain_committees.specs.Rows.{RowsTo, RowRoom}
use Rattle.chain_committees.specs.Links.{Links}
use Rattle.terms.specs.declared.sheet.Weight.{Weight}

-- slot k of the record of a place, which has n transactions
pub record SlotReady (t : List ℕ) (m r n k : ℕ) (w : List Weight) : Type 0 where
  pub place : Within t m r
  pub count : n ≡ count_at t m r
  pub slot : k ≤ 3
  pub total : total_in w ≤ 2 ^ 62

-- the record of a place
pub record RecordReady (t : List ℕ) (m r : ℕ) (w : List Weight) : Type 0 where
  pub place : Within t m r
  pub total : total_in w ≤ 2 ^ 61

-- the places of a row that lie below z
pub record RunReady (t next : List ℕ) (z : ℕ) (w : List Weight) : Type 0 where
  pub long : Row t ((z - 1) / 16)
  pub places : z ≤ length next
  pub total : total_in w ≤ 2 ^ 60

-- the row of round r, which starts with member a
pub record RowReady (t next : List ℕ) (a r : ℕ) (w : List Weight) : Type 0 where
  pub start : a ≤ 16
  pub room : RowRoom t next r
  pub total : total_in w ≤ 2 ^ 50

-- block b, where the ceiling is n and its rows start with member a
pub record BlockReady (t head next : List ℕ) (b a n : ℕ) (w : List Weight) : Type 0 where
  pub rows : RowsTo t n
  pub block : b < 512
  pub start : a ≤ 16
  pub links : Links t 16 (n * 16 + 16) head next
  pub total : total_in w ≤ 2 ^ 49
