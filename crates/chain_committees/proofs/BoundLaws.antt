-- How far the walk raises the total weight.
use Rattle.std.proofs.Common.{◌≡◌, refl, ◌∙◌, Bool, true, false, cond, List, ℕ, zero, suc, ◌+◌, ◌*◌, ◌/◌, ◌%◌, ◌<◌, ◌≤◌, arith, mul-le-mul_right, get_or, eqb, leb, ltb, eqb-true}
use Rattle.base.proofs.Words.{dec_lt, eqb-false}
use Rattle.base.specs.Folds.{fold_to, sum_to}
use Rattle.base.proofs.SumLaws.{sum_turned, sum_same, sum_le}
use Rattle.terms.specs.declared.sheet.Settings.{Settings}
use Rattle.terms.specs.Transactions.{amount_of}
use Rattle.store.specs.Table.{block_round, held_at, mark_at, count_at, transaction_at}
use Rattle.store.proofs.TableLaws.{count_le, amount_lt}
use Rattle.committee.specs.Chain.{holds_at, block_at, chain_of}
use Rattle.committee.proofs.ChainLaws.{block-round}
use Rattle.committee.specs.Changes.{change, changes_of, at_most_one}
use Rattle.committee.specs.Committees.{bonded_from}
use Rattle.committee.proofs.BondedLaws.{step, step_waits, bonded_fold}
use Rattle.committee.specs.Totals.{total_in}
use Rattle.committee.proofs.TotalLaws.{Raises, still_raises, choice_raises, change_raises, raised, raises_more, raises_same, fold_raises, fold_raises_each, marks-once}
use Rattle.chain_committees.specs.BlockChanges.{slot_change, place_change, record_change, start_at, block_change, after_blocks}
use Rattle.chain_committees.specs.LinkRuns.{run_over, places_over, rows_over}
use Rattle.chain_committees.proofs.BlockChangeLaws.{record_fold, record_slots, place-absent, place_other, place-present, block-rows}
use Rattle.chain_committees.proofs.ChainLaws.{block_counts}
use Rattle.terms.specs.declared.sheet.Weight.{Weight}

-- the amounts of held transactions are at most a, in the rounds 1 to n
abbrev pub WeightsBounded : List ℕ → ℕ → ℕ → Type 0
WeightsBounded t n a = (m r k : ℕ) → 1 ≤ r → r ≤ n → held_at t m r ≡ true → k < count_at t m r → amount_of (transaction_at t m r k) ≤ a

transactions_raise : (t : List ℕ) (m r a c : ℕ) → c ≤ 4 → ((k : ℕ) → k < c → amount_of (transaction_at t m r k) ≤ a) → Raises (fold_to (λ k. change (transaction_at t m r k)) c) (4 * a)
transactions_raise t m r a c h l =
    raises_more (fold_to (λ k. change (transaction_at t m r k)) c) (c * a) (4 * a) (mul-le-mul_right a h)
    (fold_raises_each (λ k. change (transaction_at t m r k)) a c
    (λ k i. raises_more (change (transaction_at t m r k)) (amount_of (transaction_at t m r k)) a (l k i) (change_raises (transaction_at t m r k))))

module _ (t : List ℕ) (n a : ℕ) (bounded : WeightsBounded t n a) where
  -- a place counts in the block that its mark names
  place_raises : (k m r : ℕ) → 1 ≤ r → r ≤ n → Raises (changes_of (at_most_one (holds_at t k m r))) (cond (eqb (mark_at t m r) k) (4 * a) 0)
  place_raises k m r h l = go (held_at t m r) refl (eqb (mark_at t m r) k) refl
    where
      go : (x : Bool) → held_at t m r ≡ x → (y : Bool) → eqb (mark_at t m r) k ≡ y → Raises (changes_of (at_most_one (holds_at t k m r))) (cond y (4 * a) 0)
      go false e y q = raises_same (changes_of (at_most_one (holds_at t k m r))) (λ w. w) (cond y (4 * a) 0) (λ w. place-absent t k m r w e) (still_raises (cond y (4 * a) 0))
      go true e false q = raises_same (changes_of (at_most_one (holds_at t k m r))) (λ w. w) 0 (λ w. place_other t k m r w (eqb-false (mark_at t m r) k q)) (still_raises 0)
      go true e true q =
          raises_same (changes_of (at_most_one (holds_at t k m r))) (fold_to (λ j. change (transaction_at t m r j)) (count_at t m r)) (4 * a)
          (λ w. place-present t k m r w e (eqb-true (mark_at t m r) k q) ∙ record_fold t m r w)
          (transactions_raise t m r a (count_at t m r) (count_le t m r) (λ j i. bounded m r j h l e i))

  -- each place counts once at most
  once : (f : ℕ → List Weight → List Weight) → ((k : ℕ) → Raises (f k) (sum_to (λ r. sum_to (λ m. cond (eqb (mark_at t m (r + 1)) (k + 1)) (4 * a) 0) 16) n)) → (k : ℕ) → Raises (fold_to f k) (n * (16 * (4 * a)))
  once f h k =
      raises_more (fold_to f k) (sum_to (λ j. sum_to (λ r. sum_to (λ m. cond (eqb (mark_at t m (r + 1)) (j + 1)) (4 * a) 0) 16) n) k) (n * (16 * (4 * a)))
      (marks-once (λ m r. mark_at t m (r + 1)) (4 * a) k n)
      (fold_raises f (λ j. sum_to (λ r. sum_to (λ m. cond (eqb (mark_at t m (r + 1)) (j + 1)) (4 * a) 0) 16) n) k (λ j _. h j))

  -- what the rows of block k up to m may raise it by: wherever they start
  rows_raise : (k s m : ℕ) → m ≤ n → Raises (rows_over (place_change t k) s m) (sum_to (λ r. sum_to (λ i. cond (eqb (mark_at t i (r + 1)) k) (4 * a) 0) 16) m)
  unfolding rows_over places_over place_change
  rows_raise k s m u =
      rw (← sum_same (λ r. sum_to (λ i. cond (eqb (mark_at t ((s + i) % 16) (r + 1)) k) (4 * a) 0) 16) (λ r. sum_to (λ i. cond (eqb (mark_at t i (r + 1)) k) (4 * a) 0) 16) m (λ r _. sum_turned (λ i. cond (eqb (mark_at t i (r + 1)) k) (4 * a) 0) s))
      (fold_raises (λ r. fold_to (λ i. changes_of (at_most_one (holds_at t k (((r + 1) * 16 + (s + i) % 16) % 16) (((r + 1) * 16 + (s + i) % 16) / 16)))) 16) (λ r. sum_to (λ i. cond (eqb (mark_at t ((s + i) % 16) (r + 1)) k) (4 * a) 0) 16) m
      (λ r h. fold_raises (λ i. changes_of (at_most_one (holds_at t k (((r + 1) * 16 + (s + i) % 16) % 16) (((r + 1) * 16 + (s + i) % 16) / 16)))) (λ i. cond (eqb (mark_at t ((s + i) % 16) (r + 1)) k) (4 * a) 0) 16
      (λ i _.
      let x : ((r + 1) * 16 + (s + i) % 16) % 16 ≡ (s + i) % 16 = omega arith in
      let y : ((r + 1) * 16 + (s + i) % 16) / 16 ≡ r + 1 = omega arith in
      rw (x, y) (place_raises k ((s + i) % 16) (r + 1) (omega arith) (omega arith)))))

  -- at most all of their places
  rows-most : (k s m : ℕ) → m ≤ n → Raises (rows_over (place_change t k) s m) (m * (16 * (4 * a)))
  rows-most k s m u =
      raises_more (rows_over (place_change t k) s m) (sum_to (λ r. sum_to (λ i. cond (eqb (mark_at t i (r + 1)) k) (4 * a) 0) 16) m) (m * (16 * (4 * a)))
      (sum_le (λ r. sum_to (λ i. cond (eqb (mark_at t i (r + 1)) k) (4 * a) 0) 16) (16 * (4 * a)) m (λ r _. sum_le (λ i. cond (eqb (mark_at t i (r + 1)) k) (4 * a) 0) (4 * a) 16 (λ i _. most (eqb (mark_at t i (r + 1)) k))))
      (rows_raise k s m u)
    where
      most : (b : Bool) → cond b (4 * a) 0 ≤ 4 * a
      most true = omega arith
      most false = omega arith

module _ (t : List ℕ) (S : Settings) (a : ℕ) (bounded : WeightsBounded t S.ceiling a) where
  abbrev n : ℕ
  n = S.ceiling

  -- what block k + 1 may raise it by
  block_raises : (k : ℕ) → Raises (block_change S t k) (sum_to (λ r. sum_to (λ m. cond (eqb (mark_at t m (r + 1)) (k + 1)) (4 * a) 0) 16) n)
  block_raises k =
      raises_same (block_change S t k) (rows_over (place_change t (k + 1)) (start_at S t k) n) (sum_to (λ r. sum_to (λ m. cond (eqb (mark_at t m (r + 1)) (k + 1)) (4 * a) 0) 16) n)
      (block-rows S t k)
      (rows_raise t n a bounded (k + 1) (start_at S t k) n (omega arith))

  step_raises : (s k : ℕ) → Raises (step S s (block_at n t (k + 1)) (chain_of n t k)) (sum_to (λ r. sum_to (λ m. cond (eqb (mark_at t m (r + 1)) (k + 1)) (4 * a) 0) 16) n)
  step_raises s k = go (dec_lt (block_round t (k + 1)) s)
    where
      c : ℕ
      c = sum_to (λ r. sum_to (λ m. cond (eqb (mark_at t m (r + 1)) (k + 1)) (4 * a) 0) 16) n

      go : Dec (block_round t (k + 1) < s) → Raises (step S s (block_at n t (k + 1)) (chain_of n t k)) c
      go (yes h) = raises_same (step S s (block_at n t (k + 1)) (chain_of n t k)) (block_change S t k) c (λ w. block_counts S s k t w h) (block_raises k)
      go (no h) = raises_same (step S s (block_at n t (k + 1)) (chain_of n t k)) (λ w. w) c (λ w. step_waits S s (block_at n t (k + 1)) (chain_of n t k) w (rw (block-round n t (k + 1)) (omega arith))) (still_raises c)

  -- the bonded committee
  pub bonded_raises : (s k : ℕ) → total_in (bonded_from S (chain_of n t k) s) ≤ total_in S.weights + n * (16 * (4 * a))
  bonded_raises s k =
      rw (bonded_fold S n t k s)
      (raised (fold_to (λ j. step S s (block_at n t (j + 1)) (chain_of n t j)) k) (n * (16 * (4 * a))) (once t n a bounded (λ j. step S s (block_at n t (j + 1)) (chain_of n t j)) (step_raises s) k) S.weights)

  -- the weights after the first k blocks
  after_raises : (k : ℕ) (w : List Weight) → total_in (after_blocks S t k w) ≤ total_in w + n * (16 * (4 * a))
  unfolding after_blocks
  after_raises k w = raised (fold_to (block_change S t) k) (n * (16 * (4 * a))) (once t n a bounded (block_change S t) block_raises k) w

-- ---- where each word is a 32-bit number

module _ (t : List ℕ) (words : (i : ℕ) → get_or t i 0 < 4294967296) where
  weights-bounded : (n : ℕ) → WeightsBounded t n 4294967295
  weights-bounded n m r k _ _ _ _ = amount_lt t m r words k

  -- the slots below c
  pub slots_total : (m r c : ℕ) (w : List Weight) → c ≤ 4 → total_in (fold_to (slot_change t m r) c w) ≤ total_in w + 17179869180
  unfolding slot_change
  slots_total m r c w h =
      let l = raised (fold_to (slot_change t m r) c) (c * 4294967295)
      (fold_raises_each (slot_change t m r) 4294967295 c
      (λ k _. choice_raises (ltb k (count_at t m r)) (change (transaction_at t m r k)) (λ v. v) 4294967295
      (raises_more (change (transaction_at t m r k)) (amount_of (transaction_at t m r k)) 4294967295 (amount_lt t m r words k) (change_raises (transaction_at t m r k)))
      (still_raises 4294967295))) w in
      omega arith

  -- a record
  pub record_total : (p : ℕ) (w : List Weight) → total_in (record_change t p w) ≤ total_in w + 17179869180
  unfolding record_change
  record_total p w = rw (record_slots t (p % 16) (p / 16) w) (slots_total (p % 16) (p / 16) 4 w (omega arith))

  pub from_total : (y p : ℕ) (w : List Weight) → total_in (cond (leb y p) (record_change t p w) w) ≤ total_in w + 17179869180
  from_total y p w = go (leb y p)
    where
      go : (b : Bool) → total_in (cond b (record_change t p w) w) ≤ total_in w + 17179869180
      go true = record_total p w
      go false = omega arith

  -- a run of at most n places
  pub run_total : (next : List ℕ) (y z n q : ℕ) (w : List Weight) → total_in (run_over (record_change t) next y z n q w) ≤ total_in w + n * 17179869180
  unfolding run_over
  run_total next y z zero q w = omega arith
  run_total next y z (suc n) q w = go (ltb q z) (run_total next y z n (get_or next q 0) (cond (leb y q) (record_change t q w) w))
    where
      v : List Weight
      v = cond (leb y q) (record_change t q w) w

      go : (b : Bool) → total_in (run_over (record_change t) next y z n (get_or next q 0) v) ≤ total_in v + n * 17179869180
          → total_in (cond b (run_over (record_change t) next y z n (get_or next q 0) v) w) ≤ total_in w + suc n * 17179869180
      go true i = let j = from_total y q w in omega arith
      go false i = omega arith

  -- the rows of a block up to m
  pub rows_total : (k s m : ℕ) (w : List Weight) → m ≤ 1024 → total_in (rows_over (place_change t k) s m w) ≤ total_in w + 281474976645120
  rows_total k s m w h =
      let r = raised (rows_over (place_change t k) s m) (m * (16 * (4 * 4294967295))) (rows-most t 1024 4294967295 (weights-bounded 1024) k s m h) w in
      omega arith

  pub after_total : (S : Settings) (k : ℕ) (w : List Weight) → S.ceiling ≤ 1024 → total_in (after_blocks S t k w) ≤ total_in w + 281474976645120
  after_total S k w h = let p = after_raises t S 4294967295 (weights-bounded S.ceiling) k w in omega arith

  pub bonded-total : (S : Settings) (k s : ℕ) → S.ceiling ≤ 1024 → total_in (bonded_from S (chain_of S.ceiling t k) s) ≤ total_in S.weights + 281474976645120
  bonded-total S k s h = let p = bonded_raises t S 4294967295 (weights-bounded S.ceiling) s k in omega arith
