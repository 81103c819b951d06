-- What the table says after a certificate is put.
use Rattle.std.proofs.Common.{◌≡◌, refl, ◌∙◌, Bool, true, false, cond, ◌||◌, List, ◌≢◌, ℕ, zero, suc, ◌+◌, ◌*◌, ◌%◌, ◌<◌, ◌≤◌, arith, length, get_or, drop, ext_get_or, le-ltb, Some}
use Rattle.base.specs.Sets.{insert}
use Rattle.base.specs.Folds.{tab}
use Rattle.base.proofs.FoldLaws.{tab-same, length-tab, get_d_tab}
use Rattle.terms.specs.declared.Transaction.{Transaction}
use Rattle.terms.specs.Transactions.{kind_of, number_of, amount_of, read_transaction, no_transaction}
use Rattle.terms.specs.Proposals.{Content}
use Rattle.terms.proofs.ProposalLaws.{read_back}
use Rattle.store.specs.Table.{row_length, head_length, record_length, transaction_start, used_length, Within, held_set, endorsed_set, block_round, held_at, endorsed_at, record_word, previous_at, count_at, mark_at, endorsers_at, kind_at, number_at, amount_at, transaction_at, content_at, certificate_at, nth_of}
use Rattle.store.proofs.TableLaws.{certificate-present}
use Rattle.store.specs.Writes.{put_transaction, record_of, put_certificate}
use Rattle.store.proofs.WriteLaws.{same_place, same_place_parts, other_place, in_added, content-same, certificate-same, same-beyond, length_record_put, put-above, word-put, word_kept, held-set-put, put-head}

-- ---- the words of a proposal's record

length_record : (p : Content) (d : ℕ) → length (record_of p d) ≡ record_length
unfolding record_of put_transaction
length_record p d = refl

pub record_previous : (p : Content) (d : ℕ) → get_or (record_of p d) 0 0 ≡ p.previous
unfolding record_of put_transaction
record_previous p d = refl

pub record_count : (p : Content) (d : ℕ) → get_or (record_of p d) 1 0 ≡ length p.transactions
unfolding record_of put_transaction
record_count p d = refl

record_mark : (p : Content) (d : ℕ) → get_or (record_of p d) 2 0 ≡ 0
unfolding record_of put_transaction
record_mark p d = refl

pub record_endorsers : (p : Content) (d : ℕ) → get_or (record_of p d) 3 0 ≡ d
unfolding record_of put_transaction
record_endorsers p d = refl

record_triple : (p : Content) (d k : ℕ) → k < 4
    → (get_or (record_of p d) (transaction_start k) 0 ≡ kind_of (nth_of p k)) × (get_or (record_of p d) (transaction_start k + 1) 0 ≡ number_of (nth_of p k)) × (get_or (record_of p d) (transaction_start k + 2) 0 ≡ amount_of (nth_of p k))
unfolding record_of put_transaction
record_triple p d zero h = (refl, refl, refl)
record_triple p d (suc zero) h = (refl, refl, refl)
record_triple p d (suc (suc zero)) h = (refl, refl, refl)
record_triple p d (suc (suc (suc zero))) h = (refl, refl, refl)
record_triple p d (suc (suc (suc (suc k)))) h = absurd (omega arith)

-- a list is that of its places
pub tab_nth : (p : Content) → tab (nth_of p) (length p.transactions) ≡ p.transactions
unfolding nth_of
tab_nth p =
    let n = length p.transactions in
    let l = length-tab (λ k. get_or p.transactions k no_transaction) n in
    ext_get_or no_transaction (tab (λ k. get_or p.transactions k no_transaction) n) p.transactions l
    (λ i h. get_d_tab (λ k. get_or p.transactions k no_transaction) n i no_transaction (omega arith))

-- ---- the table after

module _ (t : List ℕ) (p : Content) (d : ℕ) (at : Within t p.author p.round) where
  pub length-put : length (put_certificate t p d) ≡ length t
  unfolding put_certificate
  length-put = length_record_put t p.author p.round (record_of p d) at (length_record p d)

  -- nothing beyond the rows 0 to n changes
  pub put-beyond : (n : ℕ) → p.round ≤ n → drop (used_length n) (put_certificate t p d) ≡ drop (used_length n) t
  unfolding put_certificate
  put-beyond n h = same-beyond t (put_certificate t p d) (used_length n) length-put (λ j l. put-above t p.author p.round (record_of p d) at (length_record p d) j (omega arith))

  pub word-at-place : (k : ℕ) → k < record_length → record_word (put_certificate t p d) p.author p.round k ≡ get_or (record_of p d) k 0
  unfolding put_certificate
  word-at-place k h = word-put t p.author p.round (record_of p d) at (length_record p d) k h

  pub word-elsewhere : (m r : ℕ) → m < 16 → same_place m r p.author p.round ≡ false → (k : ℕ) → k < record_length → record_word (put_certificate t p d) m r k ≡ record_word t m r k
  unfolding put_certificate
  word-elsewhere m r h n k l = word_kept t p.author p.round (record_of p d) at (length_record p d) m r k h l (other_place m r p.author p.round n)

  -- what is made of the three words of transaction k
  pub triple-put : {A : Type 0} (f : ℕ → ℕ → ℕ → A) (k : ℕ) → k < 4
      → f (kind_at (put_certificate t p d) p.author p.round k) (number_at (put_certificate t p d) p.author p.round k) (amount_at (put_certificate t p d) p.author p.round k)
      ≡ f (kind_of (nth_of p k)) (number_of (nth_of p k)) (amount_of (nth_of p k))
  triple-put f k h =
      let z = record_triple p d k h in
      rw (word-at-place (transaction_start k) (omega arith), word-at-place (transaction_start k + 1) (omega arith), word-at-place (transaction_start k + 2) (omega arith), z.0, z.1, z.2) refl

  pub held-set-put-same : held_set (put_certificate t p d) p.round ≡ insert (held_set t p.round) p.author
  unfolding put_certificate
  held-set-put-same = held-set-put t p.author p.round (record_of p d) at (length_record p d)

  head-put : (j : ℕ) → j % row_length < head_length → j ≢ p.round * row_length → get_or (put_certificate t p d) j 0 ≡ get_or t j 0
  unfolding put_certificate
  head-put j h n = put-head t p.author p.round (record_of p d) at (length_record p d) j h n

  pub held-set-put-other : (r : ℕ) → r ≢ p.round → held_set (put_certificate t p d) r ≡ held_set t r
  unfolding held_set
  held-set-put-other r n = head-put (r * row_length) (omega arith) (λ e. n (omega arith))

  pub endorsed-set-put : (r : ℕ) → endorsed_set (put_certificate t p d) r ≡ endorsed_set t r
  unfolding endorsed_set
  endorsed-set-put r = head-put (r * row_length + 1) (omega arith) (λ e. omega arith)

  pub block-round-put : (k : ℕ) → block_round (put_certificate t p d) k ≡ block_round t k
  unfolding block_round
  block-round-put k = head-put (k * row_length + 2) (omega arith) (λ e. omega arith)

  pub held-put : (m r : ℕ) → held_at (put_certificate t p d) m r ≡ (same_place m r p.author p.round || held_at t m r)
  unfolding held_at
  held-put m r = in_added (held_set t) (held_set (put_certificate t p d)) p.author p.round at.member held-set-put-same held-set-put-other m r

  pub endorsed-put : (m r : ℕ) → endorsed_at (put_certificate t p d) m r ≡ endorsed_at t m r
  unfolding endorsed_at
  endorsed-put m r = rw (endorsed-set-put r) refl

  -- what is put is in no block
  pub mark-put : mark_at (put_certificate t p d) p.author p.round ≡ 0
  unfolding mark_at
  mark-put = word-at-place 2 (omega arith) ∙ record_mark p d

  -- its endorsers are those that it is put with
  pub endorsers-put : d < 65536 → endorsers_at (put_certificate t p d) p.author p.round ≡ d
  unfolding endorsers_at
  endorsers-put h = rw (word-at-place 3 (omega arith), record_endorsers p d) (omega arith)

  pub mark-kept : (m r : ℕ) → m < 16 → same_place m r p.author p.round ≡ false → mark_at (put_certificate t p d) m r ≡ mark_at t m r
  unfolding mark_at
  mark-kept m r h n = word-elsewhere m r h n 2 (omega arith)

  pub content-kept : (m r : ℕ) → m < 16 → same_place m r p.author p.round ≡ false → content_at (put_certificate t p d) m r ≡ content_at t m r
  content-kept m r h n = content-same t (put_certificate t p d) m r (λ k l _. word-elsewhere m r h n k l)

  module _ (few : length p.transactions ≤ 4) (small : p.previous < 65536) where
    pub previous-put : previous_at (put_certificate t p d) p.author p.round ≡ p.previous
    unfolding previous_at
    previous-put = rw (word-at-place 0 (omega arith), record_previous p d) (omega arith)

    pub count-put : count_at (put_certificate t p d) p.author p.round ≡ length p.transactions
    unfolding count_at
    count-put = rw (word-at-place 1 (omega arith), record_count p d, le-ltb 4 (length p.transactions) few) refl

    -- what is read back is what was put
    pub content-put : content_at (put_certificate t p d) p.author p.round ≡ p
    unfolding content_at transaction_at
    content-put =
        let u = put_certificate t p d in
        let f : ℕ → Transaction = λ k. read_transaction (kind_at u p.author p.round k) (number_at u p.author p.round k) (amount_at u p.author p.round k) in
        let e : tab f (length p.transactions) ≡ p.transactions =
        tab-same f (nth_of p) (length p.transactions) (λ k h. triple-put read_transaction k (omega arith) ∙ read_back (nth_of p k)) ∙ tab_nth p in
        rw (previous-put, count-put, e) refl

    -- the certificates held after
    pub certificate-put : (m r : ℕ) → certificate_at (put_certificate t p d) m r ≡ cond (same_place m r p.author p.round) (Some p) (certificate_at t m r)
    certificate-put m r = by (same_place m r p.author p.round) refl
      where
        by : (b : Bool) → same_place m r p.author p.round ≡ b → certificate_at (put_certificate t p d) m r ≡ cond b (Some p) (certificate_at t m r)
        by true e =
            let z = same_place_parts m r p.author p.round e in
            certificate-present (put_certificate t p d) m r (rw (held-put m r, e) refl)
            ∙ rw (z.0, z.1, content-put) refl
        by false e = certificate-same t (put_certificate t p d) m r (rw (held-put m r, e) refl) (λ h k l _. word-elsewhere m r h e k l)
