-- What blocks in a row hold, as words: each certificate as the read of a certificate gives it, eighteen words, the last of them the number of its block.
use Rattle.std.specs.Prelude.{List, [], ◌∷◌, ◌++◌, ℕ, zero, suc, ◌+◌, map, length}
use Rattle.agreement.specs.Rules.{Chain}
use Rattle.terms.specs.Proposals.{Content}
use Rattle.terms.specs.declared.sheet.Settings.{Settings}
use Rattle.store.specs.Table.{endorsers_at, proposal_of}
use Rattle.reads.specs.declared.Held.{Held}
use Rattle.words.specs.Proposals.{held_words}
use Rattle.spans.specs.Contents.{contents_of}

-- a certificate of block k of the table t, as the read of a certificate gives it
unfoldable pub stored : List ℕ → ℕ → Content → Held
stored t k p = record {
  proposal = proposal_of p;
  endorsers = endorsers_at t p.author p.round;
  block = k;
}

-- as words
unfoldable pub words_of : List Held → List ℕ
words_of [] = []
words_of (h ∷ l) = held_words h.proposal h.endorsers h.block ++ words_of l

-- the words of certificates of block k
abbrev pub block_words : List ℕ → ℕ → List Content → List ℕ
block_words t k l = words_of (map (stored t k) l)

module _ (S : Settings) (c : Chain Content) where
  -- how many the n blocks after the first m hold
  unfoldable pub count_after : ℕ → ℕ → ℕ
  count_after m zero = 0
  count_after m (suc n) = count_after m n + length (contents_of S c (suc (m + n)))

  -- and which, oldest block first, each block in its order
  unfoldable pub held_after : List ℕ → ℕ → ℕ → List Held
  held_after t m zero = []
  held_after t m (suc n) =
      held_after t m n ++ map (stored t (suc (m + n))) (contents_of S c (suc (m + n)))
