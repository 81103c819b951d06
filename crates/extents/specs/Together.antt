-- How the certificates of a block lie in its table: whether those of each block of a chain hang together, and between which rounds they are.
use Rattle.std.specs.Prelude.{◌≡◌, Bool, true, ◌&&◌, List, ℕ, suc, ◌<◌, ◌≤◌, ◌==◌}
use Rattle.base.specs.Folds.{any_to}
use Rattle.terms.specs.declared.sheet.Settings.{Settings}
use Rattle.store.specs.Table.{held_at, mark_at, block_round}
use Rattle.committee.specs.Chain.{chain_of}
use Rattle.chain_committees.specs.Caches.{Caches}
use Rattle.extents.specs.declared.Hints.{Hints}

-- block k has a certificate in round r
pub record InRound (t : List ℕ) (k r : ℕ) : Type 0 where
  pub author : ℕ
  pub held : held_at t author r ≡ true
  pub mark : mark_at t author r ≡ k

-- the same as a test of all sixteen members
unfoldable pub in_round : List ℕ → ℕ → ℕ → Bool
in_round t k r = any_to (λ a. held_at t a r && mark_at t a r == k) 16

-- of the rounds 1 to n, no one of the first blocks has any above its own round, and where it has some below its own it has some in the round after too
pub record Together (n : ℕ) (t : List ℕ) (blocks : ℕ) : Type 0 where
  pub within : (k r : ℕ) → 0 < k → k ≤ blocks → 0 < r → r ≤ n → InRound t k r
      → r ≤ block_round t k
  pub linked : (k r : ℕ) → 0 < k → k ≤ blocks → 0 < r → r < n → r < block_round t k
      → InRound t k r → InRound t k (suc r)

-- of the rounds 1 to n, those in which block k has some are above r
abbrev pub Below : ℕ → List ℕ → ℕ → ℕ → Type 0
Below n t k r = (q : ℕ) → 0 < q → q ≤ n → InRound t k q → r < q

-- and go up to r
abbrev pub Above : ℕ → List ℕ → ℕ → ℕ → Type 0
Above n t k r = (q : ℕ) → 0 < q → q ≤ n → InRound t k q → q ≤ r

-- what is told beside the words of a chain, its first blocks, is so: the committees are its own, and blocks hang together where that is told
pub record Hinted (S : Settings) (t : List ℕ) (blocks : ℕ) (h : Hints) : Type 0 where
  pub committees : Caches S (chain_of S.ceiling t blocks) h.cache.now
  pub together : h.together ≡ true → Together S.ceiling t blocks
