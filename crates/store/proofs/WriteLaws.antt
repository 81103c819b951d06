-- Which words the store's writes change, and which words a read looks at.
use Rattle.std.proofs.Common.{◌≡◌, refl, sym, ◌∙◌, Bool, true, false, not, cond, ◌&&◌, ◌||◌, true≢false, List, ⊎_elim, ◌⊎◌, inl, inr, ◌≢◌, ℕ, ◌+◌, ◌*◌, ◌%◌, ◌<◌, ◌≤◌, arith, eqb, length, get_or, drop, length-set, length-drop, get_or-set_same, get_or-set_other, ext_get_or, get_or-drop, eq-eqb, ne_eqb, eqb-true, Some, None}
use Rattle.base.proofs.Words.{and-true, and-false, dec_lt, ℕ_discrete, paste, length-paste}
use Rattle.base.proofs.Bools.{both, eqb_flip}
use Rattle.base.specs.Folds.{tab}
use Rattle.base.proofs.FoldLaws.{tab-same}
use Rattle.base.specs.Sets.{contains, insert, remove}
use Rattle.base.proofs.SetLaws.{in_insert, in_remove}
use Rattle.base.proofs.PasteLaws.{paste-below, paste-inside, paste-above}
use Rattle.store.specs.Table.{row_length, head_length, record_length, record_start, transaction_start, Within, held_set, held_at, record_word, previous_at, count_at, endorsers_at, transaction_at, content_at, certificate_at}
use Rattle.store.proofs.TableLaws.{count_le, held-member}
use Rattle.store.specs.Writes.{put_record}

-- (m, r) is the place (a, q)
abbrev pub same_place : ℕ → ℕ → ℕ → ℕ → Bool
same_place m r a q = eqb m a && eqb r q

pub same_place_parts : (m r a q : ℕ) → same_place m r a q ≡ true → (m ≡ a) × (r ≡ q)
same_place_parts m r a q e = let z = both (eqb m a) (eqb r q) e in (eqb-true m a z.0, eqb-true r q z.1)

pub place_self : (m r : ℕ) → same_place m r m r ≡ true
place_self m r = rw (eq-eqb m m refl, eq-eqb r r refl) refl

pub other_place : (m r a q : ℕ) → same_place m r a q ≡ false → m ≡ a → r ≡ q → ⊥
other_place m r a q e x y = absurd (true≢false (sym (rw (eq-eqb m a x, eq-eqb r q y) refl) ∙ e))

-- where a row's set gets one member more, one place more is in
pub in_added : (s s' : ℕ → ℕ) (a q : ℕ) → a < 16 → s' q ≡ insert (s q) a → ((r : ℕ) → r ≢ q → s' r ≡ s r) → (m r : ℕ) → contains (s' r) m ≡ (same_place m r a q || contains (s r) m)
in_added s s' a q h e k m r = by (ℕ_discrete r q)
  where
    by : Dec (r ≡ q) → contains (s' r) m ≡ (same_place m r a q || contains (s r) m)
    by (yes x) = rw (x, e, in_insert (s q) a m h, eq-eqb q q refl, and-true (eqb m a), eqb_flip a m) refl
    by (no n) = rw (k r n, ne_eqb r q n, and-false (eqb m a)) refl

-- where it gets one less, that place is out
pub in_removed : (s s' : ℕ → ℕ) (a q : ℕ) → s' q ≡ remove (s q) a → ((r : ℕ) → r ≢ q → s' r ≡ s r) → (m r : ℕ) → contains (s' r) m ≡ cond (same_place m r a q) false (contains (s r) m)
in_removed s s' a q e k m r = by (ℕ_discrete r q)
  where
    off : (b c : Bool) → (not b && c) ≡ cond b false c
    off true c = refl
    off false c = refl

    by : Dec (r ≡ q) → contains (s' r) m ≡ cond (same_place m r a q) false (contains (s r) m)
    by (yes x) = rw (x, e, in_remove (s q) a m, eq-eqb q q refl, and-true (eqb m a), eqb_flip a m) (off (eqb m a) (contains (s q) m))
    by (no n) = rw (k r n, ne_eqb r q n, and-false (eqb m a)) refl

-- the words of a record other than its mark make what it tells
module _ (t u : List ℕ) (m r : ℕ) (e : (k : ℕ) → k < record_length → k ≢ 2 → record_word u m r k ≡ record_word t m r k) where
  pub count_same : count_at u m r ≡ count_at t m r
  unfolding count_at
  count_same = rw (e 1 (omega arith) (omega arith)) refl

  pub previous-same : previous_at u m r ≡ previous_at t m r
  unfolding previous_at
  previous-same = rw (e 0 (omega arith) (omega arith)) refl

  pub endorsers-same : endorsers_at u m r ≡ endorsers_at t m r
  unfolding endorsers_at
  endorsers-same = rw (e 3 (omega arith) (omega arith)) refl

  pub transaction-same : (k : ℕ) → k < 4 → transaction_at u m r k ≡ transaction_at t m r k
  unfolding transaction_at
  transaction-same k h = rw (e (transaction_start k) (omega arith) (omega arith), e (transaction_start k + 1) (omega arith) (omega arith), e (transaction_start k + 2) (omega arith) (omega arith)) refl

  pub content-same : content_at u m r ≡ content_at t m r
  unfolding content_at
  content-same =
      let l = count_le t m r in
      let q : tab (transaction_at u m r) (count_at t m r) ≡ tab (transaction_at t m r) (count_at t m r) = tab-same (transaction_at u m r) (transaction_at t m r) (count_at t m r) (λ k h. transaction-same k (omega arith)) in
      rw (previous-same, count_same, q) refl

-- a place that is held as before, with the words that it had if it is, has the certificate that it had
pub certificate-same : (t u : List ℕ) (m r : ℕ) → held_at u m r ≡ held_at t m r → (m < 16 → (k : ℕ) → k < record_length → k ≢ 2 → record_word u m r k ≡ record_word t m r k)
    → certificate_at u m r ≡ certificate_at t m r
unfolding certificate_at
certificate-same t u m r h e = rw h (go (held_at t m r) refl)
  where
    go : (b : Bool) → held_at t m r ≡ b → cond b (Some (content_at u m r)) None ≡ cond b (Some (content_at t m r)) None
    go false k = refl
    go true k = rw (content-same t u m r (e (held-member t m r k))) refl

-- nothing from word n on has changed
pub same-beyond : (t u : List ℕ) (n : ℕ) → length u ≡ length t → ((j : ℕ) → n ≤ j → get_or u j 0 ≡ get_or t j 0) → drop n u ≡ drop n t
same-beyond t u n l e =
    ext_get_or 0 (drop n u) (drop n t) (simp (length-drop, l)) (λ i lt. get_or-drop n u i 0 ∙ e (n + i) (omega arith) ∙ sym (get_or-drop n t i 0))

-- ---- a record put at a place

-- the order of two numbers that differ
lt_or_gt : (a b : ℕ) → a ≢ b → (a < b) ⊎ (b < a)
lt_or_gt a b n = by (dec_lt a b)
  where
    by : Dec (a < b) → (a < b) ⊎ (b < a)
    by (yes l) = inl l
    by (no k) = inr (by' (dec_lt b a))
      where
        by' : Dec (b < a) → b < a
        by' (yes l) = l
        by' (no k') = let e : a ≡ b = omega arith in absurd (n e)

-- the records of two places lie apart
apart : (m r m' r' : ℕ) → m < 16 → m' < 16 → (m' ≡ m → r' ≡ r → ⊥)
    → (record_start m' r' + record_length ≤ record_start m r) ⊎ (record_start m r + record_length ≤ record_start m' r')
apart m r m' r' h h' n = by (ℕ_discrete r' r)
  where
    by : Dec (r' ≡ r) → (record_start m' r' + record_length ≤ record_start m r) ⊎ (record_start m r + record_length ≤ record_start m' r')
    by (yes e) = ⊎_elim (λ l. inl (omega arith)) (λ l. inr (omega arith)) (lt_or_gt m' m (λ q. n q e))
    by (no e) = ⊎_elim (λ l. inl (omega arith)) (λ l. inr (omega arith)) (lt_or_gt r' r e)

module _ (t : List ℕ) (m r : ℕ) (w : List ℕ) (at : Within t m r) (lw : length w ≡ record_length) where
  pub length_record_put : length (put_record t m r w) ≡ length t
  unfolding put_record
  length_record_put = length-set (paste t (record_start m r) w record_length) (r * row_length) (insert (held_set t r) m) ∙ length-paste t (record_start m r) w record_length (omega arith) (omega arith)

  -- a word below or above the record that is not the row's held set is as it was
  put-below : (j : ℕ) → j ≢ r * row_length → j < record_start m r → get_or (put_record t m r w) j 0 ≡ get_or t j 0
  unfolding put_record
  put-below j n h =
      get_or-set_other (paste t (record_start m r) w record_length) (r * row_length) j (insert (held_set t r) m) 0 n
      ∙ paste-below t (record_start m r) w record_length (omega arith) lw j h

  pub put-above : (j : ℕ) → record_start m r + record_length ≤ j → get_or (put_record t m r w) j 0 ≡ get_or t j 0
  unfolding put_record
  put-above j h =
      get_or-set_other (paste t (record_start m r) w record_length) (r * row_length) j (insert (held_set t r) m) 0 (omega arith)
      ∙ paste-above t (record_start m r) w record_length (omega arith) lw j (omega arith)

  pub word-put : (k : ℕ) → k < record_length → record_word (put_record t m r w) m r k ≡ get_or w k 0
  unfolding put_record record_word
  word-put k h =
      get_or-set_other (paste t (record_start m r) w record_length) (r * row_length) (record_start m r + k) (insert (held_set t r) m) 0 (omega arith)
      ∙ paste-inside t (record_start m r) w record_length (omega arith) lw k h

  pub word_kept : (m' r' k : ℕ) → m' < 16 → k < record_length → (m' ≡ m → r' ≡ r → ⊥) → record_word (put_record t m r w) m' r' k ≡ record_word t m' r' k
  unfolding record_word
  word_kept m' r' k h l n =
      ⊎_elim (λ z. put-below (record_start m' r' + k) (omega arith) (omega arith)) (λ z. put-above (record_start m' r' + k) (omega arith))
      (apart m r m' r' at.member h n)

  pub held-set-put : held_set (put_record t m r w) r ≡ insert (held_set t r) m
  unfolding put_record held_set
  held-set-put = let l = length-paste t (record_start m r) w record_length (omega arith) (omega arith) in
      get_or-set_same (paste t (record_start m r) w record_length) (r * row_length) (insert (held_set t r) m) 0 (omega arith)

  -- a word of a row's head, except the held set of the row itself
  pub put-head : (j : ℕ) → j % row_length < head_length → j ≢ r * row_length → get_or (put_record t m r w) j 0 ≡ get_or t j 0
  put-head j h n = by (dec_lt j (record_start m r))
    where
      by : Dec (j < record_start m r) → get_or (put_record t m r w) j 0 ≡ get_or t j 0
      by (yes l) = put-below j n l
      by (no l) = put-above j (omega arith)
