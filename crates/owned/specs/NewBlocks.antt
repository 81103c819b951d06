-- What a commit added to a chain: the blocks of its anchors, how far down each goes, and the leaders of their rounds.
use Rattle.std.specs.Prelude.{◌≡◌, List, ℕ, ◌+◌, ◌-◌, ◌<◌, ◌≤◌, length, get_or}
use Rattle.terms.specs.declared.sheet.Settings.{Settings}
use Rattle.committee.specs.Chain.{chain_of}
use Rattle.chain_committees.specs.BlockChanges.{last_round}
use Rattle.chain_committees.specs.Fill.{leader_at}
use Rattle.blocks.specs.Blocks.{count_after}
use Rattle.owned.specs.Making.{Lows, Rounds}

-- the blocks after the first k, up to the number of all, are those of the anchors in l, of the rounds above m up to top
pub record NewBlocks (S : Settings) (t l lows : List ℕ) (m top k blocks : ℕ) : Type 0 where
  pub from : m < top
  pub listed : top < length l
  pub room : top < length lows
  -- the round before was that of the last block, and the chain told the committee of top
  pub last : last_round t k ≤ m
  pub known : top ≤ S.lookback + m + 1
  pub old : k ≤ blocks
  pub count : blocks ≡ count_after l m (top - m) k
  pub rounds : Rounds l m top k blocks t
  pub spans : Lows S.ceiling l lows m top k t
  pub leaders : (q : ℕ) → m < q → q ≤ top → get_or l q 0 < 16
      → get_or l q 0 ≡ leader_at S (chain_of S.ceiling t k) q
