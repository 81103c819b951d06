-- Laws of the bonded committee: block by block, and as long as the starting one.
use Rattle.std.proofs.Common.{◌≡◌, refl, sym, ap, ◌∙◌, Bool, true, false, cond, List, [], ◌∷◌, ℕ, zero, suc, ◌+◌, ◌-◌, ◌<◌, ◌≤◌, add-one, length, ltb, leb, lt-ltb, le-ltb}
use Rattle.base.specs.Folds.{fold_to}
use Rattle.base.proofs.Ranges.{fold_none, fold_next}
use Rattle.agreement.specs.Rules.{Block, Chain}
use Rattle.terms.specs.Proposals.{Content}
use Rattle.committee.specs.Chain.{block_at, chain_of}
use Rattle.committee.proofs.ChainLaws.{chain-none, chain_more}
use Rattle.terms.specs.declared.sheet.Weight.{Weight}
use Rattle.terms.specs.declared.sheet.Settings.{Settings}
use Rattle.committee.specs.Changes.{changes_of}
use Rattle.committee.specs.Committees.{committee_by, step_from, bonded_from, committee_of, start_of, ordered}
use Rattle.committee.proofs.ChangeLaws.{length-changes-of}

-- what the block b on the chain c does to the bonded committee of round s
unfoldable pub step : Settings → ℕ → Block Content → Chain Content → List Weight → List Weight
step S s b c w = step_from S s b (start_of S b c) w

module _ (S : Settings) (s : ℕ) (b : Block Content) (c : Chain Content) where
  -- a block of a round below s counts, another does not
  pub step_counts : (w : List Weight) → b.round < s → step S s b c w ≡ changes_of (ordered S b c) w
  unfolding step step_from ordered
  step_counts w h = rw (lt-ltb b.round s h) refl

  pub step_waits : (w : List Weight) → s ≤ b.round → step S s b c w ≡ w
  unfolding step step_from ordered
  step_waits w h = rw (le-ltb b.round s h) refl

  pub bonded-step : bonded_from S (b ∷ c) s ≡ step S s b c (bonded_from S c s)
  unfolding bonded_from committee_of start_of step
  bonded-step = refl

-- ---- as long as the starting one

module _ (S : Settings) where
  length-step : (s : ℕ) (b : Block Content) (c : Chain Content) (w : List Weight) → length (step S s b c w) ≡ length w
  unfolding step step_from ordered
  length-step s b c w = go (ltb b.round s)
    where
      go : (d : Bool) → length (cond d (changes_of (ordered S b c) w) w) ≡ length w
      go true = length-changes-of (ordered S b c) w
      go false = refl

  length-start : (s : ℕ) → length (bonded_from S [] s) ≡ length S.weights
  unfolding bonded_from
  length-start s = refl

  length-bonded : (c : Chain Content) (s : ℕ) → length (bonded_from S c s) ≡ length S.weights
  length-bonded [] s = length-start s
  length-bonded (b ∷ c) s = ap length (bonded-step S s b c) ∙ length-step s b c (bonded_from S c s) ∙ length-bonded c s

  pub length-committee : (c : Chain Content) (r : ℕ) → length (committee_of S c r) ≡ length S.weights
  unfolding committee_of committee_by
  length-committee c r = go (leb r S.lookback)
    where
      go : (d : Bool) → length (cond d S.weights (bonded_from S c (r - S.lookback))) ≡ length S.weights
      go true = refl
      go false = length-bonded c (r - S.lookback)

-- ---- of the chain that a table tells

module _ (S : Settings) (n : ℕ) (t : List ℕ) where
  pub bonded-none : (s : ℕ) → bonded_from S (chain_of n t 0) s ≡ S.weights
  unfolding bonded_from
  bonded-none s = rw (chain-none n t) refl

  pub bonded-more : (k s : ℕ) → bonded_from S (chain_of n t (k + 1)) s ≡ step S s (block_at n t (k + 1)) (chain_of n t k) (bonded_from S (chain_of n t k) s)
  bonded-more k s = rw (add-one k, chain_more n t k) (bonded-step S s (block_at n t (suc k)) (chain_of n t k))

  -- oldest first
  pub bonded_fold : (k s : ℕ) → bonded_from S (chain_of n t k) s ≡ fold_to (λ j. step S s (block_at n t (j + 1)) (chain_of n t j)) k S.weights
  bonded_fold zero s = bonded-none s ∙ sym (fold_none (λ j. step S s (block_at n t (j + 1)) (chain_of n t j)) S.weights)
  bonded_fold (suc k) s = rw (fold_next (λ j. step S s (block_at n t (j + 1)) (chain_of n t j)) k S.weights, ← add-one k) (bonded-more k s ∙ ap (step S s (block_at n t (k + 1)) (chain_of n t k)) (bonded_fold k s))
