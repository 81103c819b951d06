-- What well-formed rows are, by their parts.
use Rattle.std.proofs.Common.{◌≡◌, refl, Bool, true, false, not, cond, ◌&&◌, List, ◌≢◌, ℕ, zero, suc, ◌+◌, ◌<◌, ◌≤◌, arith, add-one, eqb, leb, ltb, ltb-true, lt-ltb, le-ltb, leb-true, le-leb}
use Rattle.base.proofs.Words.{not-true}
use Rattle.base.proofs.Bools.{both}
use Rattle.base.specs.Folds.{all_to}
use Rattle.base.proofs.TestLaws.{all-at, all_hold}
use Rattle.base.specs.Sets.{contains}
use Rattle.base.proofs.UnionLaws.{in_none}
use Rattle.terms.specs.declared.Transaction.TheVariants.{Bond, Unbond, Entry}
use Rattle.terms.specs.Transactions.{read_transaction, in_range, bond_in_range}
use Rattle.terms.specs.Proposals.{bad_transactions, bad_previous_set}
use Rattle.terms.proofs.ProposalLaws.{bad_transactions_tab}
use Rattle.store.specs.Table.{record_length, transaction_start, held_set, endorsed_set, held_at, record_word, previous_at, count_at, mark_at, endorsers_at, kind_at, number_at, amount_at, transaction_at, content_at}
use Rattle.store.proofs.TableLaws.{count_le, held_in, held-member, content-previous, content-transactions}
use Rattle.store.proofs.WriteLaws.{count_same, previous-same, endorsers-same}
use Rattle.scan.specs.Scan.{triple_fits, transaction_fits, endorsers_fit, record_fits, place_fits, row_fits, rows_fit}

-- a held record: the laws below say what its words tell
pub record RecordFits (t : List ℕ) (allowance blocks m r : ℕ) : Type 0 where
  pub count : record_word t m r 1 ≤ allowance
  pub triples : (k : ℕ) → k < count_at t m r → transaction_fits t m r k ≡ true
  pub small : record_word t m r 0 < 65536
  pub previous : bad_previous_set r (previous_at t m r) ≡ false
  pub mark : mark_at t m r ≤ blocks
  pub endorsers : record_word t m r 3 < 65536
  pub apart : contains (endorsers_at t m r) m ≡ false

-- a row: its sets are sets of members, and each held record fits
pub record RowFits (t : List ℕ) (allowance blocks r : ℕ) : Type 0 where
  pub held : held_set t r < 65536
  pub endorsed : endorsed_set t r < 65536
  pub records : (m : ℕ) → held_at t m r ≡ true → RecordFits t allowance blocks m r

-- nothing to ask of a row where nothing is held
pub free_row : (t : List ℕ) (allowance blocks r : ℕ) → held_set t r ≡ 0 → all_to (place_fits t allowance blocks r) 16 ≡ true
unfolding place_fits
free_row t allowance blocks r e = all_hold (place_fits t allowance blocks r) 16 (λ m _. rw (held_in t m r, e, in_none m) refl)

-- ---- what a record tells

pub triple-range : (kind number amount : ℕ) → triple_fits kind number amount ≡ true → in_range (read_transaction kind number amount) ≡ true
unfolding triple_fits read_transaction
triple-range kind number amount = go (eqb kind 0) (eqb kind 1)
  where
    go : (a b : Bool) → cond a (bond_in_range number amount) (eqb amount 0 && cond b (ltb number 16) (eqb kind 2)) ≡ true
        → in_range (cond a (Bond (record { 0 = number }) amount) (cond b (Unbond (record { 0 = number })) (Entry number))) ≡ true
    go true b e = e
    go false true e = (both (eqb amount 0) (ltb number 16) e).1
    go false false e = refl

clamped : (t : List ℕ) (m r : ℕ) → (count_at t m r ≤ record_word t m r 1) × (record_word t m r 1 ≤ 4 → count_at t m r ≡ record_word t m r 1)
unfolding count_at
clamped t m r = go (ltb 4 (record_word t m r 1)) refl
  where
    go : (b : Bool) → ltb 4 (record_word t m r 1) ≡ b → (cond b 4 (record_word t m r 1) ≤ record_word t m r 1) × (record_word t m r 1 ≤ 4 → cond b 4 (record_word t m r 1) ≡ record_word t m r 1)
    go true e = let h = ltb-true 4 (record_word t m r 1) e in (omega arith, λ l. omega arith)
    go false e = (omega arith, λ l. refl)

module _ {t : List ℕ} {allowance blocks m r : ℕ} (w : RecordFits t allowance blocks m r) where
  is_in_range : (k : ℕ) → k < count_at t m r → in_range (transaction_at t m r k) ≡ true
  unfolding transaction_at transaction_fits
  is_in_range k h = triple-range (kind_at t m r k) (number_at t m r k) (amount_at t m r k) (w.triples k h)

  -- they are in range and within the allowance
  pub transactions-fit : bad_transactions allowance (content_at t m r).transactions ≡ false
  transactions-fit =
      rw (
        content-transactions t m r,
        bad_transactions_tab allowance (transaction_at t m r) (count_at t m r),
        le-ltb allowance (count_at t m r) (omega (arith, (clamped t m r).0)),
        all_hold (λ k. in_range (transaction_at t m r k)) (count_at t m r) is_in_range,
      )
      refl

  -- and the previous set is empty exactly in round 1
  pub previous-fits : bad_previous_set r (content_at t m r).previous ≡ false
  previous-fits = rw (content-previous t m r) w.previous

-- a record with the same words but for its mark
pub record_same : {t u : List ℕ} {allowance blocks blocks' m r : ℕ} → ((k : ℕ) → k < record_length → k ≢ 2 → record_word u m r k ≡ record_word t m r k) → mark_at u m r ≤ blocks'
    → RecordFits t allowance blocks m r → RecordFits u allowance blocks' m r
unfolding transaction_fits
record_same {t} {u} {m = m} {r = r} e l w =
    let n = count_le t m r in
    let c = count_same t u m r e in
    record {
      count = rw (e 1 (omega arith) (omega arith)) w.count;
      triples = λ k h. rw (e (transaction_start k) (omega arith) (omega arith), e (transaction_start k + 1) (omega arith) (omega arith), e (transaction_start k + 2) (omega arith) (omega arith)) (w.triples k (omega arith));
      small = rw (e 0 (omega arith) (omega arith)) w.small;
      previous = rw (previous-same t u m r e) w.previous;
      mark = l;
      endorsers = rw (e 3 (omega arith) (omega arith)) w.endorsers;
      apart = rw (endorsers-same t u m r e) w.apart;
    }

-- ---- the tests by their parts

module _ (t : List ℕ) (allowance blocks : ℕ) where
  record_parts : (m r : ℕ) → record_fits t allowance blocks m r ≡ true → RecordFits t allowance blocks m r
  unfolding record_fits endorsers_fit
  record_parts m r e =
      let a = both (leb (record_word t m r 1) allowance) _ e in
      let b = both (all_to (transaction_fits t m r) (count_at t m r)) _ a.1 in
      let c = both (ltb (record_word t m r 0) 65536) _ b.1 in
      let d = both (not (bad_previous_set r (previous_at t m r))) _ c.1 in
      let f = both (leb (mark_at t m r) blocks) _ d.1 in
      let g = both (ltb (record_word t m r 3) 65536) (not (contains (endorsers_at t m r) m)) f.1 in
      record {
        count = leb-true (record_word t m r 1) allowance a.0;
        triples = λ k h. all-at (transaction_fits t m r) (count_at t m r) k h b.0;
        small = ltb-true (record_word t m r 0) 65536 c.0;
        previous = not-true (bad_previous_set r (previous_at t m r)) d.0;
        mark = leb-true (mark_at t m r) blocks f.0;
        endorsers = ltb-true (record_word t m r 3) 65536 g.0;
        apart = not-true (contains (endorsers_at t m r) m) g.1;
      }

  record_whole : (m r : ℕ) → RecordFits t allowance blocks m r → record_fits t allowance blocks m r ≡ true
  unfolding record_fits endorsers_fit
  record_whole m r w =
      rw (
        le-leb (record_word t m r 1) allowance w.count,
        all_hold (transaction_fits t m r) (count_at t m r) w.triples,
        lt-ltb (record_word t m r 0) 65536 w.small,
        w.previous,
        le-leb (mark_at t m r) blocks w.mark,
        lt-ltb (record_word t m r 3) 65536 w.endorsers,
        w.apart,
      )
      refl

  row-parts : (r : ℕ) → row_fits t allowance blocks r ≡ true → RowFits t allowance blocks r
  unfolding row_fits place_fits
  row-parts r e =
      let a = both (ltb (held_set t r) 65536) _ e in
      let b = both (ltb (endorsed_set t r) 65536) _ a.1 in
      let f : ℕ → Bool = λ m. cond (held_at t m r) (record_fits t allowance blocks m r) true in
      record {
        held = ltb-true (held_set t r) 65536 a.0;
        endorsed = ltb-true (endorsed_set t r) 65536 b.0;
        records = λ m h. record_parts m r (rw h at (all-at f 16 m (held-member t m r h) b.1));
      }

  row-whole : (r : ℕ) → RowFits t allowance blocks r → row_fits t allowance blocks r ≡ true
  unfolding row_fits place_fits
  row-whole r w =
      rw (lt-ltb (held_set t r) 65536 w.held, lt-ltb (endorsed_set t r) 65536 w.endorsed)
      (all_hold (place_fits t allowance blocks r) 16 (λ m _. place m (held_at t m r) refl))
    where
      place : (m : ℕ) (b : Bool) → held_at t m r ≡ b → cond b (record_fits t allowance blocks m r) true ≡ true
      place m false e = refl
      place m true e = record_whole m r (w.records m e)

  -- the rows of well-formed rounds fit
  pub rows-held : (n : ℕ) → rows_fit t allowance blocks n ≡ true → (r : ℕ) → 0 < r → r ≤ n → RowFits t allowance blocks r
  unfolding rows_fit
  rows-held n e zero h l = absurd (omega arith)
  rows-held n e (suc r) h l = row-parts (suc r) (rw (add-one r) at (all-at (λ i. row_fits t allowance blocks (i + 1)) n r (omega arith) e))

  -- and where they fit, the rounds are well formed
  pub rows_whole : (n : ℕ) → ((r : ℕ) → 0 < r → r ≤ n → RowFits t allowance blocks r) → rows_fit t allowance blocks n ≡ true
  unfolding rows_fit
  rows_whole n f = all_hold (λ i. row_fits t allowance blocks (i + 1)) n (λ i h. row-whole (i + 1) (f (i + 1) (omega arith) (omega arith)))
