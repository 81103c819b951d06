-- Laws of what the walk relies on, and of running committees.
use Rattle.std.proofs.Common.{◌≡◌, refl, sym, ◌∙◌, true, List, ℕ, ◌+◌, ◌-◌, ◌*◌, ◌<◌, ◌≤◌, arith, get_or}
use Rattle.base.proofs.Words.{ℕ_discrete, dec_lt}
use Rattle.base.proofs.SumLaws.{sum_le}
use Rattle.store.specs.Table.{Row, block_round}
use Rattle.terms.specs.declared.sheet.Settings.{Settings}
use Rattle.terms.specs.Ranges.{weight_in, SettingsFit}
use Rattle.committee.specs.Chain.{chain_of}
use Rattle.committee.specs.Committees.{bonded_from, committee_of}
use Rattle.committee.proofs.CommitteeLaws.{committee-start, committee-bonded, margin_fits}
use Rattle.committee.specs.Totals.{TotalBounded}
use Rattle.chain_committees.specs.BlockChanges.{block_change, last_round, blocks_fit}
use Rattle.chain_committees.proofs.ChainLaws.{last_none, last_some, last_more, fits-at, last-from, bonded-split, after_none, after_more}
use Rattle.chain_committees.proofs.BoundLaws.{after_total, bonded-total}
use Rattle.chain_committees.specs.ChainInTable.{ChainInTable, AfterBlocks}
use Rattle.terms.specs.declared.sheet.Weight.{Weight}

-- settings in range, a table long enough and fitting blocks are enough
pub chain_in_table : (S : Settings) (t : List ℕ) (blocks : ℕ) → SettingsFit S → Row t S.ceiling → blocks_fit S.ceiling t blocks ≡ true → ChainInTable S t blocks
chain_in_table S t blocks f l e =
    record {
      ceiling = f.ceiling_to;
      long = l;
      few = few (ℕ_discrete blocks 0);
      rounds = e;
      total = sum_le (weight_in S.weights) 1000000 16 f.weight_to;
      margin = margin_fits f;
    }
  where
    few : Dec (blocks ≡ 0) → 2 * blocks < S.ceiling
    few (yes z) = let c = f.ceiling_from in omega arith
    few (no z) =
        let p = last-from S.ceiling t blocks e blocks (omega arith) in
        let q = fits-at S.ceiling t blocks e (blocks - 1) (omega arith) in
        let i : blocks - 1 + 1 ≡ blocks = omega arith in
        let b = rw i at q.below in
        let s = last_some t blocks z in
        omega arith

module _ {S : Settings} {t : List ℕ} {blocks : ℕ} where
  pub after-start : (q : ℕ) → AfterBlocks S t blocks q 0 S.weights
  after-start q = record { within = omega arith; passed = omega (arith, last_none t); weights = sym (after_none S t S.weights) }

  -- with another bound
  pub after-at : {q k : ℕ} {w : List Weight} (q' : ℕ) → last_round t k ≤ q' → AfterBlocks S t blocks q k w → AfterBlocks S t blocks q' k w
  after-at q' h s = record { within = s.within; passed = h; weights = s.weights }

  -- one block more
  pub after_next : {q k : ℕ} {w : List Weight} (v : List Weight) → k < blocks → block_round t (k + 1) ≤ q → v ≡ block_change S t k w → AfterBlocks S t blocks q k w → AfterBlocks S t blocks q (k + 1) v
  after_next {q} {k} {w} v h l e s =
      record {
        within = omega arith;
        passed = rw (last_more t k) l;
        weights = rw (e, after_more S t k S.weights, s.weights) refl;
      }

  -- where no block of a round below s is left, it is the bonded committee of that round
  pub after_bonded : {k : ℕ} {w : List Weight} (s : ℕ) → 1 ≤ s → ChainInTable S t blocks → (k < blocks → s ≤ block_round t (k + 1)) → AfterBlocks S t blocks (s - 1) k w
      → w ≡ bonded_from S (chain_of S.ceiling t blocks) s
  after_bonded {k} {w} s h a f x =
      let p = x.passed in
      x.weights ∙ sym (bonded-split S t blocks a.rounds s k blocks x.within (omega arith) (omega arith) f)

  -- so it is where a walk goes that far
  pub bonded_reached : {k : ℕ} {w : List Weight} (s : ℕ) → 1 ≤ s → ChainInTable S t blocks → AfterBlocks S t blocks 1024 k w → last_round t k ≤ s - 1 → (k < blocks → s ≤ block_round t (k + 1))
      → w ≡ bonded_from S (chain_of S.ceiling t blocks) s
  bonded_reached s h a x p f = after_bonded s h a f (after-at (s - 1) p x)

  -- where the first block's round is not below that of round r, no block changes the committees up to r
  pub committee_starts : ChainInTable S t blocks → (r q : ℕ) → q ≤ r → (0 < blocks → r - S.lookback ≤ block_round t 1) → committee_of S (chain_of S.ceiling t blocks) q ≡ S.weights
  committee_starts a r q h f = go (dec_lt S.lookback q)
    where
      go : Dec (S.lookback < q) → committee_of S (chain_of S.ceiling t blocks) q ≡ S.weights
      go (yes l) =
          committee-bonded S (chain_of S.ceiling t blocks) q l
          ∙ sym (after_bonded (q - S.lookback) (omega arith) a (λ k. omega (arith, f k)) (after-start (q - S.lookback - 1)))
      go (no l) = committee-start S (chain_of S.ceiling t blocks) q (omega arith)

  -- before the first block's round it is the starting one
  pub after_first : {k : ℕ} {w : List Weight} → ChainInTable S t blocks → AfterBlocks S t blocks 0 k w → w ≡ S.weights
  after_first {k} {w} a s =
      let p = last-from S.ceiling t blocks a.rounds k s.within in
      let q = s.passed in
      let e : k ≡ 0 = omega arith in
      s.weights ∙ rw e (after_none S t S.weights)

  -- its total is bounded, where each word of the table is a 32-bit number
  pub after_bounded : {q k : ℕ} {w : List Weight} → ((i : ℕ) → get_or t i 0 < 4294967296) → ChainInTable S t blocks → AfterBlocks S t blocks q k w → TotalBounded w
  after_bounded {q} {k} {w} words a s =
      let l = after_total t words S k S.weights a.ceiling in
      let h = a.total in
      record { total = rw s.weights (omega arith) }

-- and so is every committee
pub committee_bounded : (S : Settings) (t : List ℕ) (blocks r : ℕ) → ((i : ℕ) → get_or t i 0 < 4294967296) → ChainInTable S t blocks → TotalBounded (committee_of S (chain_of S.ceiling t blocks) r)
committee_bounded S t blocks r words a = go (dec_lt S.lookback r)
  where
    go : Dec (S.lookback < r) → TotalBounded (committee_of S (chain_of S.ceiling t blocks) r)
    go (yes h) =
        let l = bonded-total t words S blocks (r - S.lookback) a.ceiling in
        let s = a.total in
        record { total = rw (committee-bonded S (chain_of S.ceiling t blocks) r h) (omega arith) }
    go (no h) = let s = a.total in record { total = rw (committee-start S (chain_of S.ceiling t blocks) r (omega arith)) (omega arith) }

-- what a committee is that a walk has reached
pub ruleset committee_reached = (committee-start, committee-bonded, after_first)
