-- The certificates of blocks as entries, and entries as words.
use Rattle.std.specs.Prelude.{List, [], ◌∷◌, ◌++◌, ℕ, zero, suc, ◌+◌}
use Rattle.terms.specs.Proposals.{Content}
use Rattle.terms.specs.declared.sheet.Settings.{Settings}
use Rattle.committee.specs.Committees.{ordered}
use Rattle.committee.specs.Chain.{block_at, chain_of}

-- a certificate of a block: the block's number, its round, its author
pub record Entry : Type 0 where
  pub block : ℕ
  pub round : ℕ
  pub author : ℕ

-- certificates of block k, in order
unfoldable pub entries_of : ℕ → List Content → List Entry
entries_of k [] = []
entries_of k (p ∷ l) = record { block = k; round = p.round; author = p.author } ∷ entries_of k l

module _ (S : Settings) (t : List ℕ) where
  -- those of the block after the first k of the chain that the table tells, in the block's order
  abbrev pub block_entries : ℕ → List Entry
  block_entries k =
      entries_of (suc k) (ordered S (block_at S.ceiling t (suc k)) (chain_of S.ceiling t k))

  -- those of the n blocks after the first k, oldest first
  unfoldable pub entries_after : ℕ → ℕ → List Entry
  entries_after k zero = []
  entries_after k (suc n) = entries_after k n ++ block_entries (k + n)

-- block number, certificate round, author: three words each
unfoldable pub words_of : List Entry → List ℕ
words_of [] = []
words_of (x ∷ l) = x.block ∷ x.round ∷ x.author ∷ words_of l
