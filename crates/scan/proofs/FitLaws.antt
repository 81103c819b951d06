-- Which writes keep well-formed rows well formed.
use Rattle.std.proofs.Common.{◌≡◌, refl, sym, ap, ◌∙◌, Bool, true, false, not, ◌||◌, true≢false, List, ℕ, ◌<◌, ◌≤◌, arith, ltb, length, ltb-false}
use Rattle.base.proofs.Words.{ℕ_discrete, not-false}
use Rattle.base.specs.Folds.{all_to}
use Rattle.base.proofs.TestLaws.{all-at}
use Rattle.base.specs.Sets.{contains}
use Rattle.base.proofs.SetLaws.{insert_lt}
use Rattle.terms.specs.declared.Transaction.{Transaction}
use Rattle.terms.specs.declared.Transaction.TheVariants.{Bond, Unbond, Entry}
use Rattle.terms.specs.Transactions.{kind_of, number_of, amount_of, in_range}
use Rattle.terms.specs.Proposals.{Content, bad_transactions, bad_previous_set}
use Rattle.terms.proofs.ProposalLaws.{bad_transactions_tab}
use Rattle.store.specs.Table.{Row, Within, held_set, endorsed_set, held_at, mark_at, nth_of}
use Rattle.store.proofs.TableLaws.{held-member}
use Rattle.store.specs.Writes.{put_certificate, set_endorsed, clear_endorsed, clear_held, clear_used}
use Rattle.store.proofs.WriteLaws.{same_place, same_place_parts}
use Rattle.store.proofs.PutLaws.{record_previous, record_count, record_endorsers, endorsers-put, tab_nth, word-at-place, word-elsewhere, triple-put, held-set-put-same, held-set-put-other, endorsed-set-put, held-put, mark-put, mark-kept, previous-put, count-put}
use Rattle.store.proofs.EndorseLaws.{OnlyEndorsed, held-set-endorse, held-endorse, word-endorse, mark-endorse, set-endorsed, clear-endorsed, endorsed_set_lt, endorsed_clear_lt}
use Rattle.store.proofs.HeldLaws.{OnlyHeld, clear-held, held-clear, held_clear_lt, endorsed-set-held, word_held, mark-held}
use Rattle.store.proofs.MarkLaws.{OnlyMarks, held-set-marked, endorsed-set-marked, held-marked, word-marked}
use Rattle.store.proofs.ClearLaws.{held-set-cleared, endorsed-set-cleared, held-cleared}
use Rattle.scan.specs.Scan.{triple_fits, transaction_fits, rows_fit}
use Rattle.scan.proofs.ScanLaws.{RecordFits, RowFits, record_same, rows-held, rows_whole}

-- rows that fit where those of t do
rows-kept : (t u : List ℕ) (a b b' n : ℕ) → rows_fit t a b n ≡ true → ((r : ℕ) → 0 < r → r ≤ n → RowFits t a b r → RowFits u a b' r) → rows_fit u a b' n ≡ true
rows-kept t u a b b' n e f = rows_whole u a b' n (λ r h l. f r h l (rows-held t a b n e r h l))

-- ---- a certificate put

pub triple-fits : (x : Transaction) → triple_fits (kind_of x) (number_of x) (amount_of x) ≡ in_range x
unfolding triple_fits
triple-fits (Bond m a) = refl
triple-fits (Unbond m) = refl
triple-fits (Entry n) = refl

-- transactions that are not bad
fit_parts : (a : ℕ) (p : Content) → bad_transactions a p.transactions ≡ false → (length p.transactions ≤ a) × ((k : ℕ) → k < length p.transactions → in_range (nth_of p k) ≡ true)
fit_parts a p e = go (ltb a (length p.transactions)) refl (sym (bad_transactions_tab a (nth_of p) (length p.transactions)) ∙ ap (bad_transactions a) (tab_nth p) ∙ e)
  where
    go : (b : Bool) → ltb a (length p.transactions) ≡ b → (b || not (all_to (λ k. in_range (nth_of p k)) (length p.transactions))) ≡ false
        → (length p.transactions ≤ a) × ((k : ℕ) → k < length p.transactions → in_range (nth_of p k) ≡ true)
    go true l h = absurd (true≢false h)
    go false l h =
        let i = not-false (all_to (λ k. in_range (nth_of p k)) (length p.transactions)) h in
        (ltb-false a (length p.transactions) l, λ k j. all-at (λ k. in_range (nth_of p k)) (length p.transactions) k j i)

module _ (t : List ℕ) (p : Content) (d : ℕ) (at : Within t p.author p.round) (a b : ℕ)
    (few : a ≤ 4) (fit : bad_transactions a p.transactions ≡ false) (right : bad_previous_set p.round p.previous ≡ false) (small : p.previous < 65536) (low : d < 65536) (apart : contains d p.author ≡ false) where
  record_put : RecordFits (put_certificate t p d) a b p.author p.round
  unfolding transaction_fits
  record_put =
      let z = fit_parts a p fit in
      let l = z.0 in
      let c = count-put t p d at (omega arith) small in
      record {
        count = rw (word-at-place t p d at 1 (omega arith), record_count p d) l;
        triples = λ k h. triple-put t p d at triple_fits k (omega arith) ∙ triple-fits (nth_of p k) ∙ z.1 k (omega arith);
        small = rw (word-at-place t p d at 0 (omega arith), record_previous p d) small;
        previous = rw (previous-put t p d at (omega arith) small) right;
        mark = rw (mark-put t p d at) (omega arith);
        endorsers = rw (word-at-place t p d at 3 (omega arith), record_endorsers p d) low;
        apart = rw (endorsers-put t p d at low) apart;
      }

  row_put : (r : ℕ) → RowFits t a b r → RowFits (put_certificate t p d) a b r
  row_put r w =
      record {
        held = by (ℕ_discrete r p.round) w.held;
        endorsed = rw (endorsed-set-put t p d at r) w.endorsed;
        records = λ m h. go m h (same_place m r p.author p.round) refl;
      }
    where
      by : Dec (r ≡ p.round) → held_set t r < 65536 → held_set (put_certificate t p d) r < 65536
      by (yes e) h = rw (e, held-set-put-same t p d at) (insert_lt 16 p.author (held_set t p.round) at.member (rw e at h))
      by (no n) h = rw (held-set-put-other t p d at r n) h

      go : (m : ℕ) → held_at (put_certificate t p d) m r ≡ true → (z : Bool) → same_place m r p.author p.round ≡ z → RecordFits (put_certificate t p d) a b m r
      go m h true e = let z = same_place_parts m r p.author p.round e in rw (z.0, z.1) record_put
      go m h false e =
          let i = held-member (put_certificate t p d) m r h in
          let f = w.records m (rw (held-put t p d at m r, e) at h) in
          record_same (λ k l _. word-elsewhere t p d at m r i e k l) (rw (mark-kept t p d at m r i e) f.mark) f

  pub rows-put : (n : ℕ) → rows_fit t a b n ≡ true → rows_fit (put_certificate t p d) a b n ≡ true
  rows-put n e = rows-kept t (put_certificate t p d) a b b n e (λ r _ _. row_put r)

-- ---- an endorsed mark

rows-endorse : {q : ℕ} {t u : List ℕ} → OnlyEndorsed q t u → ((r : ℕ) → endorsed_set t r < 65536 → endorsed_set u r < 65536)
    → (a b n : ℕ) → rows_fit t a b n ≡ true → rows_fit u a b n ≡ true
rows-endorse {t = t} {u = u} o s a b n e = rows-kept t u a b b n e (λ r _ _ w. row r w)
  where
    row : (r : ℕ) → RowFits t a b r → RowFits u a b r
    row r w = record { held = rw (held-set-endorse o r) w.held; endorsed = s r w.endorsed; records = λ m h. go m (rw (held-endorse o m r) at h) }
      where
        go : (m : ℕ) → held_at t m r ≡ true → RecordFits u a b m r
        go m h =
            let i = held-member t m r h in
            record_same (λ k l _. word-endorse o m r i k l) (rw (mark-endorse o m r i) (w.records m h).mark) (w.records m h)

module _ (t : List ℕ) (m r : ℕ) (at : Within t m r) (a b n : ℕ) where
  pub rows-set-endorsed : rows_fit t a b n ≡ true → rows_fit (set_endorsed t m r) a b n ≡ true
  rows-set-endorsed = rows-endorse (set-endorsed t m r) (endorsed_set_lt t m r at) a b n

  pub rows-clear-endorsed : rows_fit t a b n ≡ true → rows_fit (clear_endorsed t m r) a b n ≡ true
  rows-clear-endorsed = rows-endorse (clear-endorsed t m r) (endorsed_clear_lt t m r at) a b n

-- ---- a certificate held no more

pub rows-clear-held : (t : List ℕ) (a q : ℕ) → Row t q → (allowance blocks n : ℕ) → rows_fit t allowance blocks n ≡ true → rows_fit (clear_held t a q) allowance blocks n ≡ true
rows-clear-held t a q at allowance blocks n e = rows-kept t u allowance blocks blocks n e (λ r _ _ w. row r w)
  where
    u : List ℕ
    u = clear_held t a q

    o : OnlyHeld q t u
    o = clear-held t a q at

    still : (m r : ℕ) (b : Bool) → same_place m r a q ≡ b → held_at u m r ≡ true → held_at t m r ≡ true
    still m r true k h = absurd (true≢false (sym h ∙ held-clear t a q at m r ∙ rw k refl))
    still m r false k h = sym (held-clear t a q at m r ∙ rw k refl) ∙ h

    row : (r : ℕ) → RowFits t allowance blocks r → RowFits u allowance blocks r
    row r w = record { held = held_clear_lt t a q at r w.held; endorsed = rw (endorsed-set-held o r) w.endorsed; records = λ m h. go m (still m r (same_place m r a q) refl h) }
      where
        go : (m : ℕ) → held_at t m r ≡ true → RecordFits u allowance blocks m r
        go m h =
            let i = held-member t m r h in
            record_same (λ k l _. word_held o m r i k l) (rw (mark-held o m r i) (w.records m h).mark) (w.records m h)

-- ---- marks and block rounds

-- marks and block rounds may change as they like, if the marks of held records name one of the blocks after
pub rows-marked : {c : ℕ} {t u : List ℕ} → OnlyMarks c t u → (a b b' n : ℕ)
    → ((m r : ℕ) → 0 < r → r ≤ n → held_at t m r ≡ true → mark_at t m r ≤ b → mark_at u m r ≤ b') → rows_fit t a b n ≡ true → rows_fit u a b' n ≡ true
rows-marked {t = t} {u = u} o a b b' n f e = rows-kept t u a b b' n e row
  where
    row : (r : ℕ) → 0 < r → r ≤ n → RowFits t a b r → RowFits u a b' r
    row r z l w =
        record { held = rw (held-set-marked o r) w.held; endorsed = rw (endorsed-set-marked o r) w.endorsed; records = λ m h. go m (rw (held-marked o m r) at h) }
      where
        go : (m : ℕ) → held_at t m r ≡ true → RecordFits u a b' m r
        go m h = record_same (word-marked o m r) (f m r z l h (w.records m h).mark) (w.records m h)

-- ---- the used part cleared

module _ (t : List ℕ) (n : ℕ) where
  -- cleared rows are well formed, whatever the allowance and the number of blocks
  pub rows-cleared : (a b : ℕ) → rows_fit (clear_used t n) a b n ≡ true
  rows-cleared a b =
      rows_whole (clear_used t n) a b n
      (λ r z h.
      record {
        held = rw (held-set-cleared t n r h) (omega arith);
        endorsed = rw (endorsed-set-cleared t n r h) (omega arith);
        records = λ m e. absurd (true≢false (sym e ∙ held-cleared t n m r h));
      })
