-- Blocks by their numbers: the round of each, and which of them holds a certificate.
use Rattle.std.proofs.Common.{◌≡◌, refl, sym, ap, ◌∙◌, Bool, true, false, cond, List, ℕ, zero, suc, ◌<◌, ◌≤◌, arith, eqb, eqb-true, length, Option, Some, None}
use Rattle.base.proofs.Words.{eqb-false}
use Rattle.agreement.specs.Rules.{Block}
use Rattle.agreement.specs.Dag.{is_held}
use Rattle.agreement.specs.Prefixes as chains
use Rattle.terms.specs.Proposals.{Content}
use Rattle.store.specs.Table.{block_round, mark_at, held_at, content_at}
use Rattle.store.proofs.TableLaws.{certificate-present}
use Rattle.committee.specs.Chain.{block_at, chain_of}
use Rattle.committee.proofs.ChainLaws.{holds_at_lem, block-round, block_inside, chain-none, chain_more, chain_length}
use Rattle.rules.specs.Reads.{block_number, round_of}
use Rattle.state.specs.declared.State.{State}
use Rattle.state.specs.View.{view}

module _ (n : ℕ) (t : List ℕ) where
  -- block j of the first k is the one that the table tells
  chain-block : (k j : ℕ) → 0 < j → j ≤ k → chains.block_numbered (chain_of n t k) j ≡ Some (block_at n t j)
  unfolding chains.block_numbered
  chain-block zero j h l = absurd (omega arith)
  chain-block (suc k) j h l = rw (chain_more n t k, chain_length n t k) (go (eqb j (suc k)) refl (λ i. chain-block k j h i))
    where
      go : (b : Bool) → eqb j (suc k) ≡ b → (j ≤ k → chains.block_numbered (chain_of n t k) j ≡ Some (block_at n t j))
          → ◌≡◌ {A = Option (Block Content)} (cond b (Some (block_at n t (suc k))) (chains.block_numbered (chain_of n t k) j)) (Some (block_at n t j))
      go true e f = ap (λ (i : ℕ). Some (block_at n t i)) (sym (eqb-true j (suc k) e))
      go false e f = let d = eqb-false j (suc k) e in f (omega arith)

  -- and so its round
  pub chain-round : (k j : ℕ) → 0 < j → j ≤ k → round_of (chains.block_numbered (chain_of n t k) j) ≡ block_round t j
  chain-round k j h l = rw (chain-block k j h l) (block-round n t j)

  module _ (a r : ℕ) (from : 0 < r) (to : r ≤ n) (held : held_at t a r ≡ true) where
    -- a block holds the certificate of a place if it is marked with its number
    pub block_held : (k : ℕ) → is_held ((block_at n t k).holds a r) ≡ eqb (mark_at t a r) k
    block_held k = rw (block_inside n t k a r from to, holds_at_lem t k a r, certificate-present t a r held) (go (eqb (mark_at t a r) k))
      where
        go : (b : Bool) → is_held (cond b (Some (content_at t a r)) None) ≡ b
        go true = refl
        go false = refl

    -- so it is in at most one block
    pub in_one_block : (i j : ℕ) → is_held ((block_at n t i).holds a r) ≡ true → is_held ((block_at n t j).holds a r) ≡ true → i ≡ j
    in_one_block i j h k = sym (eqb-true (mark_at t a r) i (sym (block_held i) ∙ h)) ∙ eqb-true (mark_at t a r) j (sym (block_held j) ∙ k)

    -- so the mark of a held certificate is the number of its block, 0 for none
    pub mark_number : (k : ℕ) → mark_at t a r ≤ k → block_number (chain_of n t k) a r ≡ mark_at t a r
    unfolding block_number
    mark_number zero l = rw (chain-none n t) (omega arith)
    mark_number (suc k) l = rw (chain_more n t k, block_held (suc k), chain_length n t k) (go (eqb (mark_at t a r) (suc k)) refl (λ i. mark_number k i))
      where
        go : (b : Bool) → eqb (mark_at t a r) (suc k) ≡ b → (mark_at t a r ≤ k → block_number (chain_of n t k) a r ≡ mark_at t a r) → cond b (suc k) (block_number (chain_of n t k) a r) ≡ mark_at t a r
        go true e f = sym (eqb-true (mark_at t a r) (suc k) e)
        go false e f = let d = eqb-false (mark_at t a r) (suc k) e in f (omega arith)

-- ---- what a view shows of them

module _ (s : State) (t : List ℕ) where
  -- how many there are
  pub blocks_shown : length (view s t).chain ≡ s.blocks
  blocks_shown = chain_length s.settings.ceiling t s.blocks

  -- the round of each
  pub round_shown : (k : ℕ) → 0 < k → k ≤ s.blocks → round_of (chains.block_numbered (view s t).chain k) ≡ block_round t k
  round_shown = chain-round s.settings.ceiling t s.blocks
