-- The greatest total weight of a committee, in every well-formed table: 81,536,000.
use Rattle.std.proofs.Common.{◌≡◌, sym, ap, ◌∙◌, true, not, List, ℕ, ◌-◌, ◌<◌, ◌≤◌, arith, ltb}
use Rattle.base.proofs.Words.{dec_lt, not-false}
use Rattle.base.proofs.Bools.{neither}
use Rattle.base.specs.Folds.{all_to}
use Rattle.base.proofs.SumLaws.{sum_le}
use Rattle.base.proofs.TestLaws.{all-at}
use Rattle.terms.specs.Transactions.{in_range}
use Rattle.terms.specs.Proposals.{bad_transactions}
use Rattle.terms.proofs.ProposalLaws.{range_amount, bad_transactions_tab}
use Rattle.store.specs.Table.{count_at, transaction_at}
use Rattle.store.proofs.TableLaws.{content-transactions}
use Rattle.scan.specs.Scan.{rows_fit}
use Rattle.scan.proofs.ScanLaws.{transactions-fit, rows-held}
use Rattle.terms.specs.declared.sheet.Settings.{Settings}
use Rattle.terms.specs.Ranges.{weight_in, SettingsFit}
use Rattle.committee.specs.Chain.{chain_of}
use Rattle.committee.specs.Committees.{committee_of}
use Rattle.committee.proofs.CommitteeLaws.{committee-start, committee-bonded}
use Rattle.committee.specs.Totals.{total_in}
use Rattle.chain_committees.proofs.BoundLaws.{WeightsBounded, bonded_raises}

rows-weights : (t : List ℕ) (allowance blocks n : ℕ) → rows_fit t allowance blocks n ≡ true → WeightsBounded t n 1000
rows-weights t allowance blocks n e m r k h l f i =
    let w = (rows-held t allowance blocks n e r h l).records m f in
    let u = sym (bad_transactions_tab allowance (transaction_at t m r) (count_at t m r)) ∙ ap (bad_transactions allowance) (sym (content-transactions t m r)) ∙ transactions-fit w in
    let a = not-false (all_to (λ j. in_range (transaction_at t m r j)) (count_at t m r)) (neither (ltb allowance (count_at t m r)) (not (all_to (λ j. in_range (transaction_at t m r j)) (count_at t m r))) u).1 in
    range_amount (transaction_at t m r k) (all-at (λ j. in_range (transaction_at t m r j)) (count_at t m r) k i a)

pub committee-total : (S : Settings) (t : List ℕ) (blocks r : ℕ) → SettingsFit S → rows_fit t S.allowance blocks S.ceiling ≡ true
    → total_in (committee_of S (chain_of S.ceiling t blocks) r) ≤ 81536000
committee-total S t blocks r f e = go (dec_lt S.lookback r)
  where
    start : total_in S.weights ≤ 16000000
    start = sum_le (weight_in S.weights) 1000000 16 f.weight_to

    go : Dec (S.lookback < r) → total_in (committee_of S (chain_of S.ceiling t blocks) r) ≤ 81536000
    go (yes h) =
        rw (committee-bonded S (chain_of S.ceiling t blocks) r h)
        (let p = bonded_raises t S 1000 (rows-weights t S.allowance blocks S.ceiling e) (r - S.lookback) blocks in
        let c = f.ceiling_to in
        let s = start in
        omega arith)
    go (no h) = rw (committee-start S (chain_of S.ceiling t blocks) r (omega arith)) (let s = start in omega arith)
