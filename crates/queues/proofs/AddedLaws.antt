-- What guests' queues are after a transaction is added to one.
use Rattle.std.proofs.Common.{◌≡◌, refl, ap, ◌∙◌, true, cond, List, [], ◌∷◌, ◌++◌, ◌≢◌, ℕ, ◌+◌, ◌<◌, ◌*◌, arith, add-one, eqb, get_or, set, length-set, get_or-set_same, get_or-set_other, eq-eqb, ne_eqb}
use Rattle.base.proofs.Words.{fun_ext, dec_lt, ℕ_discrete}
use Rattle.base.proofs.Ranges.{tab_next}
use Rattle.base.proofs.FoldLaws.{tab-same}
use Rattle.terms.specs.declared.Transaction.{Transaction}
use Rattle.terms.specs.Transactions.{kind_of, number_of, amount_of, read_transaction, in_range}
use Rattle.terms.proofs.ProposalLaws.{read_back}
use Rattle.store.proofs.FirstRow.{OnlyFirst, only_then, only_set}
use Rattle.scan.specs.Scan.{triple_fits}
use Rattle.scan.proofs.FitLaws.{triple-fits}
use Rattle.queues.specs.Queues.{added}
use Rattle.queues.specs.Words.{served_word, waiting_count, place_start, Place, waiting_at, queue_of, queues_of, waiting_fits, queue_fits, queues_fit, added_table}
use Rattle.queues.proofs.WordLaws.{queue_tab, fits_served, guest-fits, fits-waiting, guest-whole, guests_whole, triple, waiting-same, waiting-fits-same, SameQueue, queue_kept, guest-kept}

-- the eight words before a queue are none of a queue's
before_queue : (g h i j : ℕ) → i < 8 → j < 24 → 16 + h * 32 + i ≡ 24 + g * 32 + j → ⊥
before_queue g h i j l m e = go (dec_lt g h)
  where
    go : Dec (g < h) → ⊥
    go (yes p) = absurd (omega arith)
    go (no p) = absurd (omega arith)

module _ (t : List ℕ) (g : ℕ) (x : Transaction) (at : Place t g (waiting_count t g)) where
  put : List ℕ
  put = set (set (set t (place_start g (waiting_count t g)) (kind_of x)) (place_start g (waiting_count t g) + 1) (number_of x)) (place_start g (waiting_count t g) + 2) (amount_of x)

  added-put : added_table t g x ≡ set put (1 + g) (waiting_count t g + 1)
  unfolding added_table put
  added-put = refl

  only-put : OnlyFirst t put
  unfolding put
  only-put =
      let b = place_start g (waiting_count t g) in
      only_then (only_set t b (kind_of x) (omega arith))
      (only_then (only_set (set t b (kind_of x)) (b + 1) (number_of x) (omega arith)) (only_set (set (set t b (kind_of x)) (b + 1) (number_of x)) (b + 2) (amount_of x) (omega arith)))

  pub only-added : OnlyFirst t (added_table t g x)
  only-added = rw added-put (only_then only-put (only_set put (1 + g) (waiting_count t g + 1) (omega arith)))

  -- the eight words before each queue stay
  pub added-before : (h i : ℕ) → h < 8 → i < 8 → get_or (added_table t g x) (16 + h * 32 + i) 0 ≡ get_or t (16 + h * 32 + i) 0
  unfolding put
  added-before h i l m =
      let b = place_start g (waiting_count t g) in
      let j = 16 + h * 32 + i in
      let n = waiting_count t g in
      let k = at.place in
      rw added-put
      (get_or-set_other put (1 + g) j (n + 1) 0 (λ e. absurd (omega (arith, at.guest)))
      ∙ get_or-set_other (set (set t b (kind_of x)) (b + 1) (number_of x)) (b + 2) j (amount_of x) 0 (λ e. before_queue g h i (n * 3 + 2) m (omega arith) (omega arith))
      ∙ get_or-set_other (set t b (kind_of x)) (b + 1) j (number_of x) 0 (λ e. before_queue g h i (n * 3 + 1) m (omega arith) (omega arith))
      ∙ get_or-set_other t b j (kind_of x) 0 (λ e. before_queue g h i (n * 3) m (omega arith) (omega arith)))

  word-added : get_or (added_table t g x) (1 + g) 0 ≡ waiting_count t g + 1
  word-added = let l = only-put.size in rw added-put (get_or-set_same put (1 + g) (waiting_count t g + 1) 0 (omega arith))

  pub count-added : waiting_count (added_table t g x) g ≡ waiting_count t g + 1
  unfolding waiting_count
  count-added = word-added

  -- the words of the new place
  triple-added : {A : Type 0} (f : ℕ → ℕ → ℕ → A) → triple f (added_table t g x) (place_start g (waiting_count t g)) ≡ f (kind_of x) (number_of x) (amount_of x)
  unfolding put
  triple-added f =
      let b = place_start g (waiting_count t g) in
      let n = waiting_count t g + 1 in
      let p = set t b (kind_of x) in
      let q = set p (b + 1) (number_of x) in
      let k = length-set t b (kind_of x) in
      let l = length-set p (b + 1) (number_of x) in
      let i : get_or (set put (1 + g) n) b 0 ≡ kind_of x =
      get_or-set_other put (1 + g) b n 0 (omega arith) ∙ get_or-set_other q (b + 2) b (amount_of x) 0 (omega arith) ∙ get_or-set_other p (b + 1) b (number_of x) 0 (omega arith) ∙ get_or-set_same t b (kind_of x) 0 (omega arith) in
      let j : get_or (set put (1 + g) n) (b + 1) 0 ≡ number_of x =
      get_or-set_other put (1 + g) (b + 1) n 0 (omega arith) ∙ get_or-set_other q (b + 2) (b + 1) (amount_of x) 0 (omega arith) ∙ get_or-set_same p (b + 1) (number_of x) 0 (omega arith) in
      let m : get_or (set put (1 + g) n) (b + 2) 0 ≡ amount_of x =
      get_or-set_other put (1 + g) (b + 2) n 0 (omega arith) ∙ get_or-set_same q (b + 2) (amount_of x) 0 (omega arith) in
      rw (added-put, i, j, m) refl

  -- any other word
  word_kept : (j : ℕ) → j ≢ 1 + g → j ≢ place_start g (waiting_count t g) → j ≢ place_start g (waiting_count t g) + 1 → j ≢ place_start g (waiting_count t g) + 2 → get_or (added_table t g x) j 0 ≡ get_or t j 0
  unfolding put
  word_kept j c d e f =
      let b = place_start g (waiting_count t g) in
      let p = set t b (kind_of x) in
      let q = set p (b + 1) (number_of x) in
      rw added-put
      (get_or-set_other put (1 + g) j (waiting_count t g + 1) 0 c ∙ get_or-set_other q (b + 2) j (amount_of x) 0 f ∙ get_or-set_other p (b + 1) j (number_of x) 0 e ∙ get_or-set_other t b j (kind_of x) 0 d)

  pub served-added : served_word (added_table t g x) ≡ served_word t
  unfolding served_word
  served-added = word_kept 0 (omega arith) (omega arith) (omega arith) (omega arith)

  place-before : (k i : ℕ) → k < waiting_count t g → i < 3 → get_or (added_table t g x) (place_start g k + i) 0 ≡ get_or t (place_start g k + i) 0
  place-before k i h l = word_kept (place_start g k + i) (omega arith) (omega arith) (omega arith) (omega arith)

  others-added : (h : ℕ) → h ≢ g → h < 8 → SameQueue t (added_table t g x) h
  unfolding waiting_count
  others-added h n l = record { count = word_kept (1 + h) (λ e. n (omega arith)) (omega arith) (omega arith) (omega arith); places = λ k i m o. go k i m o (dec_lt h g) }
    where
      go : (k i : ℕ) → k < 8 → i < 3 → Dec (h < g) → get_or (added_table t g x) (place_start h k + i) 0 ≡ get_or t (place_start h k + i) 0
      go k i m o (yes p) = word_kept (place_start h k + i) (omega arith) (omega arith) (omega arith) (omega arith)
      go k i m o (no p) = let q : g < h = omega arith in word_kept (place_start h k + i) (omega arith) (omega arith) (omega arith) (omega arith)

  last-added : waiting_at (added_table t g x) g (waiting_count t g) ≡ x
  unfolding waiting_at
  last-added = triple-added read_transaction ∙ read_back x

  last_fits : waiting_fits (added_table t g x) g (waiting_count t g) ≡ in_range x
  unfolding waiting_fits
  last_fits = triple-added triple_fits ∙ triple-fits x

  pub queue_added : queue_of (added_table t g x) g ≡ queue_of t g ++ (x ∷ [])
  queue_added =
      let n = waiting_count t g in
      let u = added_table t g x in
      rw (queue_tab u g at.guest, queue_tab t g at.guest, count-added, add-one n, tab_next (waiting_at u g) n, last-added)
      (ap (λ (l : List Transaction). l ++ (x ∷ [])) (tab-same (waiting_at u g) (waiting_at t g) n (λ k h. waiting-same t u g k g k (λ i l. place-before k i h l))))

  module _ (e : queues_fit t ≡ true) where
    pub queue_added-other : (h : ℕ) → h ≢ g → queue_of (added_table t g x) h ≡ queue_of t h
    queue_added-other h n = queue_kept t (added_table t g x) e h (others-added h n)

    pub queues-added : queues_of (added_table t g x) ≡ added (queues_of t) g x
    unfolding queues_of
    queues-added = rw (served-added, fun_ext by-guest) refl
      where
        by-guest : (h : ℕ) → queue_of (added_table t g x) h ≡ cond (eqb h g) (queue_of t g ++ (x ∷ [])) (queue_of t h)
        by-guest h = go (ℕ_discrete h g)
          where
            go : Dec (h ≡ g) → queue_of (added_table t g x) h ≡ cond (eqb h g) (queue_of t g ++ (x ∷ [])) (queue_of t h)
            go (yes k) = rw (eq-eqb h g k) (ap (queue_of (added_table t g x)) k ∙ queue_added)
            go (no k) = rw (ne_eqb h g k) (queue_added-other h k)

    pub fits-added : in_range x ≡ true → queues_fit (added_table t g x) ≡ true
    fits-added r = guests_whole (added_table t g x) (rw served-added (fits_served t e)) (λ h l. go h l (ℕ_discrete h g))
      where
        fit : (k : ℕ) → k < waiting_count (added_table t g x) g → Dec (k ≡ waiting_count t g) → waiting_fits (added_table t g x) g k ≡ true
        fit k l (yes q) = rw q (last_fits ∙ r)
        fit k l (no n) =
            let c = count-added in
            let m : k < waiting_count t g = omega arith in
            waiting-fits-same t (added_table t g x) g k g k (λ i o. place-before k i m o) ∙ fits-waiting t e g k at.guest m

        go : (h : ℕ) → h < 8 → Dec (h ≡ g) → queue_fits (added_table t g x) h ≡ true
        go h l (yes q) = rw q (guest-whole (added_table t g x) g (rw count-added (omega arith)) (λ k m. fit k m (ℕ_discrete k (waiting_count t g))))
        go h l (no n) = guest-kept t (added_table t g x) h (others-added h n l) ∙ guest-fits t e h l
