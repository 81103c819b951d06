-- The journal of a well-formed state: its blocks are of rounds that rise, and its transactions are in range.
use Rattle.std.proofs.Common.{◌≡◌, refl, Bool, true, false, not, cond, List, [], ◌∷◌, ◌++◌, ℕ, zero, suc, ◌+◌, ◌%◌, ◌<◌, ◌≤◌, arith, add-one, length, eqb, ltb, Option, Some, None}
use Rattle.std.proofs.lemmas.Option.{none-some}
use Rattle.base.proofs.Words.{not-false}
use Rattle.base.proofs.Bools.{both, neither}
use Rattle.agreement.specs.Rules.{Block, Chain}
use Rattle.terms.specs.declared.Transaction.{Transaction}
use Rattle.terms.specs.Transactions.{in_range}
use Rattle.terms.specs.Proposals.{Content, all_in_range, bad_transactions}
use Rattle.store.specs.Table.{block_round, mark_at, certificate_at, content_at}
use Rattle.store.proofs.TableLaws.{held-certificate}
use Rattle.scan.specs.Scan.{rows_fit}
use Rattle.scan.proofs.ScanLaws.{transactions-fit, rows-held}
use Rattle.committee.specs.Chain.{is_round, block_at, chain_of}
use Rattle.committee.proofs.ChainLaws.{round-parts, holds_at_lem, block-round, block-holds, chain-none, chain_more}
use Rattle.terms.specs.declared.sheet.Settings.{Settings}
use Rattle.committee.specs.Changes.{at_most_one, row, rows}
use Rattle.committee.specs.Committees.{ordered, start_of}
use Rattle.committee.proofs.OrderLaws.{row-none, row_more, rows_none, rows_more, ordered-rows}
use Rattle.chain_committees.specs.BlockChanges.{last_round, blocks_fit}
use Rattle.chain_committees.proofs.ChainLaws.{last_some, fits-at}
use Rattle.balance.specs.Ledger.{entered, entered_of, journal}
use Rattle.balance.proofs.LedgerLaws.{AllBelow}

-- ---- rounds

below_up : (c : Chain Content) (s q : ℕ) → s ≤ q → AllBelow c s → AllBelow c q
below_up [] s q h a = tt
below_up (b ∷ c) s q h a = (omega (arith, a.0), below_up c s q h a.1)

module _ (n : ℕ) (t : List ℕ) (blocks : ℕ) (fit : blocks_fit n t blocks ≡ true) where
  pub all-below : (k : ℕ) → k ≤ blocks → AllBelow (chain_of n t k) (last_round t k + 1)
  all-below zero h = rw (chain-none n t) tt
  all-below (suc k) h =
      let f = fits-at n t blocks fit k (omega arith) in
      let e : last_round t (suc k) ≡ block_round t (suc k) = last_some t (suc k) (λ z. omega arith) in
      let u : last_round t k < block_round t (suc k) = rw (add-one k) at f.rises in
      rw (chain_more n t k) (rw (block-round n t (suc k)) (omega arith), below_up (chain_of n t k) (last_round t k + 1) (last_round t (suc k) + 1) (omega arith) (all-below k (omega arith)))

-- ---- transactions

abbrev Fit : List Content → Type 0
Fit [] = Unit {0}
Fit (p ∷ l) = (all_in_range p.transactions ≡ true) × Fit l

fit_append : (l m : List Content) → Fit l → Fit m → Fit (l ++ m)
fit_append [] m f g = g
fit_append (p ∷ l) m f g = (f.0, fit_append l m f.1 g)

entered-fit : (l e : List Transaction) → all_in_range l ≡ true → all_in_range e ≡ true → all_in_range (entered l e) ≡ true
unfolding entered all_in_range
entered-fit [] e f g = g
entered-fit (x ∷ l) e f g = let p = both (in_range x) (all_in_range l) f in entered-fit l (x ∷ e) p.1 (rw p.0 g)

entered-of-fit : (l : List Content) (e : List Transaction) → Fit l → all_in_range e ≡ true → all_in_range (entered_of l e) ≡ true
unfolding entered_of
entered-of-fit [] e f g = g
entered-of-fit (p ∷ l) e f g = entered-of-fit l (entered p.transactions e) f.1 (entered-fit p.transactions e f.0 g)

-- every certificate that a block lists is one that it holds
module _ (b : Block Content) (f : (a r : ℕ) (p : Content) → b.holds a r ≡ Some p → all_in_range p.transactions ≡ true) where
  one-fit : (o : Option Content) → ((p : Content) → o ≡ Some p → all_in_range p.transactions ≡ true) → Fit (at_most_one o)
  one-fit None g = tt
  one-fit (Some p) g = (g p refl, tt)

  row-fit : (a r m : ℕ) → Fit (row b a r m)
  row-fit a r zero = rw (row-none b a r) tt
  row-fit a r (suc m) = rw (row_more b a r m) (fit_append (row b a r m) (at_most_one (b.holds ((a + m) % 16) r)) (row-fit a r m) (one-fit (b.holds ((a + m) % 16) r) (f ((a + m) % 16) r)))

  fit-rows : (a n : ℕ) → Fit (rows b a n)
  fit-rows a zero = rw (rows_none b a) tt
  fit-rows a (suc n) = rw (rows_more b a n) (fit_append (rows b a n) (row b a (suc n) 16) (fit-rows a n) (row-fit a (suc n) 16))

  ordered-fit : (S : Settings) (c : Chain Content) → Fit (ordered S b c)
  ordered-fit S c = rw (ordered-rows S b c) (fit-rows (start_of S b c) S.ceiling)

module _ (t : List ℕ) (allowance blocks n : ℕ) (fit : rows_fit t allowance blocks n ≡ true) where
  -- the transactions of a held record
  record_fit : (a r : ℕ) (p : Content) → 0 < r → r ≤ n → certificate_at t a r ≡ Some p → all_in_range p.transactions ≡ true
  unfolding bad_transactions
  record_fit a r p h l e =
      let c = held-certificate t a r p e in
      let w = (rows-held t allowance blocks n fit r h l).records a c.0 in
      rw c.1 (not-false (all_in_range (content_at t a r).transactions) (neither (ltb allowance (length (content_at t a r).transactions)) (not (all_in_range (content_at t a r).transactions)) (transactions-fit w)).1)

  holds-fit : (k a r : ℕ) (p : Content) → (block_at n t k).holds a r ≡ Some p → all_in_range p.transactions ≡ true
  holds-fit k a r p e = go (is_round n r) refl (eqb (mark_at t a r) k) (rw (block-holds n t k a r, holds_at_lem t k a r) at e)
    where
      go : (b : Bool) → is_round n r ≡ b → (m : Bool) → ◌≡◌ {A = Option Content} (cond b (cond m (certificate_at t a r) None) None) (Some p) → all_in_range p.transactions ≡ true
      go true q true h = let z = round-parts n r q in record_fit a r p z.0 z.1 h
      go true q false h = absurd (none-some p h)
      go false q m h = absurd (none-some p h)

  pub journal-fit : (S : Settings) (k : ℕ) → all_in_range (journal S (chain_of n t k)) ≡ true
  unfolding journal all_in_range
  journal-fit S zero = rw (chain-none n t) refl
  journal-fit S (suc k) =
      rw (chain_more n t k)
      (entered-of-fit (ordered S (block_at n t (suc k)) (chain_of n t k)) (journal S (chain_of n t k)) (ordered-fit (block_at n t (suc k)) (holds-fit (suc k)) S (chain_of n t k)) (journal-fit S k))
