-- Words that agree on a layout give the same: what lies beyond is no part of it.
use Rattle.std.proofs.Common.{◌≡◌, refl, ap, List, ℕ, ◌+◌, ◌*◌, ◌<◌, ◌≤◌, arith, length, get_or, le-leb}
use Rattle.base.proofs.FoldLaws.{tab-same}
use Rattle.base.proofs.TestLaws.{all_same}
use Rattle.terms.specs.Ranges.{weight}
use Rattle.words.specs.Lengths.{state_length, transaction_length, body_length}
use Rattle.words.specs.Words.{word}
use Rattle.words.specs.Bodies.{triple_reads, body_reads, slot_in, body_in}
use Rattle.words.specs.States.{state_reads, settings_in, own_proposal_in, state_in}

-- the first n words are the same
abbrev pub Agree : ℕ → List ℕ → List ℕ → Type 0
Agree n u v = (k : ℕ) → k < n → get_or u k 0 ≡ get_or v k 0

module _ (n : ℕ) (u v : List ℕ) (e : Agree n u v) where
  module _ (a : ℕ) (l : a + body_length ≤ n) where
    slot_same : (k : ℕ) → k < 4 → slot_in u a k ≡ slot_in v a k
    unfolding slot_in
    slot_same k h = rw (e (a + 1) (omega arith), e (a + 2 + k * transaction_length) (omega arith), e (a + 2 + k * transaction_length + 1) (omega arith), e (a + 2 + k * transaction_length + 2) (omega arith)) refl

    triple-same : (k : ℕ) → k < 4 → triple_reads u a k ≡ triple_reads v a k
    unfolding triple_reads
    triple-same k h = rw (e (a + 1) (omega arith), e (a + 2 + k * transaction_length) (omega arith), e (a + 2 + k * transaction_length + 2) (omega arith)) refl

    pub body_same : body_in u a ≡ body_in v a
    unfolding body_in
    body_same = rw (e a (omega arith), e (a + 1) (omega arith), tab-same (slot_in u a) (slot_in v a) 4 slot_same) refl

    pub body-reads-same : body_reads u a ≡ body_reads v a
    unfolding body_reads
    body-reads-same = rw (e a (omega arith), all_same (triple_reads u a) (triple_reads v a) 4 triple-same) refl

-- two stretches that agree on the words of a state
module _ (u v : List ℕ) (e : Agree state_length u v) where
  settings-same : settings_in u ≡ settings_in v
  unfolding settings_in
  settings-same =
      rw (e 1 (omega arith), e 2 (omega arith), e 3 (omega arith), tab-same (λ i. weight (word u (4 + i))) (λ i. weight (word v (4 + i))) 16 (λ i h. ap weight (e (4 + i) (omega arith))), e 37 (omega arith)) refl

  own-proposal-same : own_proposal_in u ≡ own_proposal_in v
  unfolding own_proposal_in
  own-proposal-same = rw (e 21 (omega arith), body_same state_length u v e 23 (omega arith)) refl

  pub state-same : state_in u ≡ state_in v
  unfolding state_in
  state-same = rw (e 0 (omega arith), e 20 (omega arith), e 22 (omega arith), e 38 (omega arith), settings-same, own-proposal-same) refl

  pub state-reads-same : state_length ≤ length u → state_length ≤ length v → state_reads u ≡ state_reads v
  unfolding state_reads
  state-reads-same h k = rw (le-leb state_length (length u) h, le-leb state_length (length v) k, e 21 (omega arith), body-reads-same state_length u v e 23 (omega arith)) refl
