-- Laws of the chain in the table: the bonded committee block by block, and block rounds that rise.
use Rattle.std.proofs.Common.{◌≡◌, refl, sym, ◌∙◌, ◌&&◌, true, List, ℕ, zero, suc, ◌+◌, ◌-◌, ◌*◌, ◌%◌, ◌<◌, ◌≤◌, arith, add-one, eqb, ltb, ne_eqb, ltb-true, eqb-true}
use Rattle.base.proofs.Words.{ℕ_discrete, dec_lt, eqb-suc-zero}
use Rattle.base.proofs.Bools.{both}
use Rattle.base.specs.Folds.{fold_to}
use Rattle.base.proofs.FoldLaws.{fold_more}
use Rattle.base.proofs.TestLaws.{all-at}
use Rattle.agreement.specs.Rules.{last}
use Rattle.store.specs.Table.{block_round}
use Rattle.committee.specs.Chain.{block_at, chain_of}
use Rattle.committee.proofs.ChainLaws.{block-round, chain-last}
use Rattle.terms.specs.declared.sheet.Settings.{Settings}
use Rattle.committee.specs.Committees.{bonded_from, committee_of, leader_by, start_of}
use Rattle.committee.proofs.CommitteeLaws.{committee-start, committee-bonded}
use Rattle.committee.proofs.BondedLaws.{step, step_counts, step_waits, bonded-none, bonded-more}
use Rattle.chain_committees.specs.BlockChanges.{start_at, block_change, after_blocks, last_round, block_fits, blocks_fit}
use Rattle.terms.specs.declared.sheet.Weight.{Weight}

-- ---- the last round

pub last_none : (t : List ℕ) → last_round t 0 ≡ 0
unfolding last_round
last_none t = refl

pub last_some : (t : List ℕ) (k : ℕ) → (k ≡ 0 → ⊥) → last_round t k ≡ block_round t k
unfolding last_round
last_some t k h = rw (ne_eqb k 0 h) refl

pub last_more : (t : List ℕ) (k : ℕ) → last_round t (k + 1) ≡ block_round t (k + 1)
last_more t k = last_some t (k + 1) (λ z. omega arith)

pub last-chain : (n : ℕ) (t : List ℕ) (k : ℕ) → last (chain_of n t k) ≡ last_round t k
unfolding last_round
last-chain n t k = chain-last n t k

pub ruleset last_of_chain = last-chain

-- ---- a block

-- of a round below s it counts
pub block_counts : (S : Settings) (s k : ℕ) (t : List ℕ) (w : List Weight) → block_round t (k + 1) < s → step S s (block_at S.ceiling t (k + 1)) (chain_of S.ceiling t k) w ≡ block_change S t k w
unfolding block_change
block_counts S s k t w h = let n = S.ceiling in step_counts S s (block_at n t (k + 1)) (chain_of n t k) w (rw (block-round n t (k + 1)) h)

-- ---- rounds that rise

pub record BlockFits (n : ℕ) (t : List ℕ) (k : ℕ) : Type 0 where
  pub even : block_round t (k + 1) % 2 ≡ 0
  pub rises : last_round t k < block_round t (k + 1)
  pub below : block_round t (k + 1) < n

block-fits : (n : ℕ) (t : List ℕ) (k : ℕ) → block_fits n t k ≡ true → BlockFits n t k
unfolding block_fits
block-fits n t k e =
    let p = both (eqb (block_round t (k + 1) % 2) 0) (ltb (last_round t k) (block_round t (k + 1)) && ltb (block_round t (k + 1)) n) e in
    let q = both (ltb (last_round t k) (block_round t (k + 1))) (ltb (block_round t (k + 1)) n) p.1 in
    record {
      even = eqb-true (block_round t (k + 1) % 2) 0 p.0;
      rises = ltb-true (last_round t k) (block_round t (k + 1)) q.0;
      below = ltb-true (block_round t (k + 1)) n q.1;
    }

module _ (n : ℕ) (t : List ℕ) (blocks : ℕ) (fit : blocks_fit n t blocks ≡ true) where
  pub fits-at : (k : ℕ) → k < blocks → BlockFits n t k
  unfolding blocks_fit
  fits-at k h = block-fits n t k (all-at (block_fits n t) blocks k h fit)

  -- there are at most half as many blocks as the last one's round
  pub last-from : (k : ℕ) → k ≤ blocks → 2 * k ≤ last_round t k
  unfolding last_round
  last-from zero h = omega arith
  last-from (suc k) h =
      let p = last-from k (omega arith) in
      let q = fits-at k (omega arith) in
      rw (eqb-suc-zero k, ← add-one k) (omega arith)

  pub last-next : (k : ℕ) → last_round t (suc k) ≡ block_round t (k + 1)
  unfolding last_round
  last-next k = rw (eqb-suc-zero k, add-one k) refl

  -- an older block has no later round
  pub last_up : (j k : ℕ) → j ≤ k → k ≤ blocks → last_round t j ≤ last_round t k
  last_up j zero h l = let e : j ≡ 0 = omega arith in rw e (omega arith)
  last_up j (suc k) h l = go (ℕ_discrete j (suc k)) (λ q. last_up j k q (omega arith))
    where
      go : Dec (j ≡ suc k) → (j ≤ k → last_round t j ≤ last_round t k) → last_round t j ≤ last_round t (suc k)
      go (yes e) f = rw e (omega arith)
      go (no e) f = let p = f (omega arith) in let q = fits-at k (omega arith) in rw (last-next k) (omega arith)

-- ---- one block more

pub after_none : (S : Settings) (t : List ℕ) (w : List Weight) → after_blocks S t 0 w ≡ w
unfolding after_blocks fold_to
after_none S t w = refl

pub after_more : (S : Settings) (t : List ℕ) (k : ℕ) (w : List Weight) → after_blocks S t (k + 1) w ≡ block_change S t k (after_blocks S t k w)
unfolding after_blocks
after_more S t k w = fold_more (block_change S t) k w

-- ---- the bonded committee

module _ (S : Settings) (t : List ℕ) (blocks : ℕ) (fit : blocks_fit S.ceiling t blocks ≡ true) where
  abbrev n : ℕ
  n = S.ceiling

  -- where the newest block's round is below s, all count
  bonded-all : (s k : ℕ) → k ≤ blocks → last_round t k < s → bonded_from S (chain_of n t k) s ≡ after_blocks S t k S.weights
  bonded-all s zero h l = bonded-none S n t s ∙ sym (after_none S t S.weights)
  bonded-all s (suc k) h l =
      let q = fits-at n t blocks fit k (omega arith) in
      let b : block_round t (k + 1) < s = rw (last-next n t blocks fit k) at l in
      rw (← add-one k, bonded-more S n t k s, block_counts S s k t (bonded_from S (chain_of n t k) s) b, bonded-all s k (omega arith) (omega arith), after_more S t k S.weights) refl

  -- the first j count where the round of block j is below s, and that of the next is not
  pub bonded-split : (s j k : ℕ) → j ≤ k → k ≤ blocks → last_round t j < s → (j < k → s ≤ block_round t (j + 1)) → bonded_from S (chain_of n t k) s ≡ after_blocks S t j S.weights
  bonded-split s j zero h l b f = let e : j ≡ 0 = omega arith in rw e (bonded-all s 0 (omega arith) (rw e at b))
  bonded-split s j (suc k) h l b f = go (ℕ_discrete j (suc k)) (λ q. bonded-split s j k q (omega arith) b (λ x. f (omega arith)))
    where
      go : Dec (j ≡ suc k) → (j ≤ k → bonded_from S (chain_of n t k) s ≡ after_blocks S t j S.weights) → bonded_from S (chain_of n t (suc k)) s ≡ after_blocks S t j S.weights
      go (yes e) g = rw (← e) (bonded-all s j (omega arith) b)
      go (no e) g =
          let u = last_up n t blocks fit (suc j) (suc k) (omega arith) l in
          let x : s ≤ block_round t (k + 1) = omega (arith, f (omega arith), last-next n t blocks fit j, last-next n t blocks fit k) in
          rw (← add-one k, bonded-more S n t k s, step_waits S s (block_at n t (k + 1)) (chain_of n t k) (bonded_from S (chain_of n t k) s) (rw (block-round n t (k + 1)) x)) (g (omega arith))

  -- blocks from round s on do not count: the chain of the first j tells what the whole chain tells
  pub bonded-below : (s j k : ℕ) → j ≤ k → k ≤ blocks → (j < k → s ≤ block_round t (j + 1)) → bonded_from S (chain_of n t k) s ≡ bonded_from S (chain_of n t j) s
  bonded-below s j zero h l f = let e : j ≡ 0 = omega arith in rw e refl
  bonded-below s j (suc k) h l f = go (ℕ_discrete j (suc k)) (λ q. bonded-below s j k q (omega arith) (λ x. f (omega arith)))
    where
      go : Dec (j ≡ suc k) → (j ≤ k → bonded_from S (chain_of n t k) s ≡ bonded_from S (chain_of n t j) s) → bonded_from S (chain_of n t (suc k)) s ≡ bonded_from S (chain_of n t j) s
      go (yes e) g = rw e refl
      go (no e) g =
          let u = last_up n t blocks fit (suc j) (suc k) (omega arith) l in
          let x : s ≤ block_round t (k + 1) = omega (arith, f (omega arith), last-next n t blocks fit j, last-next n t blocks fit k) in
          rw (← add-one k, bonded-more S n t k s, step_waits S s (block_at n t (k + 1)) (chain_of n t k) (bonded_from S (chain_of n t k) s) (rw (block-round n t (k + 1)) x)) (g (omega arith))

  -- so the order of a block starts with the leader of its round, as the whole chain tells it
  pub start-whole : (k : ℕ) → k < blocks → start_at S t k ≡ leader_by (committee_of S (chain_of n t blocks) (block_round t (k + 1))) (block_round t (k + 1))
  unfolding start_at start_of committee_of
  start-whole k h =
      let r = block_round t (k + 1) in
      let e = bonded-below (r - S.lookback) k blocks (omega arith) (omega arith) (λ _. omega arith) in
      rw (block-round n t (k + 1), e) refl

  -- and as the first k blocks tell it, where no block from there on has a round below its own less the lookback
  pub start-now : (k i : ℕ) → k ≤ i → i < blocks → (0 < k → last_round t k + S.lookback < block_round t (i + 1)) → block_round t (i + 1) ≤ block_round t (k + 1) + S.lookback
      → start_at S t i ≡ leader_by (after_blocks S t k S.weights) (block_round t (i + 1))
  unfolding start_at start_of
  start-now k i h l ahead near = rw (block-round n t (i + 1), go (dec_lt S.lookback (block_round t (i + 1)))) refl
    where
      go : Dec (S.lookback < block_round t (i + 1)) → committee_of S (chain_of n t i) (block_round t (i + 1)) ≡ after_blocks S t k S.weights
      go (yes d) =
          committee-bonded S (chain_of n t i) (block_round t (i + 1)) d
          ∙ bonded-split (block_round t (i + 1) - S.lookback) k i h (omega arith) (passed (ℕ_discrete k 0)) (λ _. omega arith)
        where
          passed : Dec (k ≡ 0) → last_round t k < block_round t (i + 1) - S.lookback
          passed (yes z) = rw (z, last_none t) (omega arith)
          passed (no z) = omega (arith, ahead (omega arith))
      go (no d) = committee-start S (chain_of n t i) (block_round t (i + 1)) (omega arith) ∙ first (ℕ_discrete k 0)
        where
          first : Dec (k ≡ 0) → S.weights ≡ after_blocks S t k S.weights
          first (yes z) = rw z (sym (after_none S t S.weights))
          first (no z) = absurd (omega (arith, ahead (omega arith)))
