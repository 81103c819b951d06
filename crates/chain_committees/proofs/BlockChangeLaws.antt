-- Laws of the walk: records and places, and a block row by row.
use Rattle.std.proofs.Common.{◌≡◌, refl, sym, ◌∙◌, Bool, true, false, cond, List, ℕ, suc, ◌+◌, ◌*◌, ◌/◌, ◌%◌, arith, ltb, lt-ltb, le-ltb}
use Rattle.base.specs.Folds.{fold_to}
use Rattle.base.proofs.FoldLaws.{fold_to_none, fold_same, fold_high}
use Rattle.terms.specs.Transactions.{read_transaction}
use Rattle.store.specs.Table.{mark_at, held_at, count_at, kind_at, number_at, amount_at, transaction_at, content_at}
use Rattle.store.proofs.TableLaws.{count_le, content-transactions, transaction-words}
use Rattle.committee.specs.Chain.{holds_at, block_at, chain_of}
use Rattle.committee.proofs.ChainLaws.{holds-present, holds-other, holds-absent, block_inside}
use Rattle.committee.specs.Changes.{change, changes, changes_of, at_most_one}
use Rattle.committee.proofs.ChangeLaws.{changes-tab, changes-none, changes-one, rows-changes}
use Rattle.committee.proofs.OrderLaws.{ordered-rows}
use Rattle.terms.specs.declared.sheet.Settings.{Settings}
use Rattle.chain_committees.specs.BlockChanges.{slot_change, place_change, record_change, start_at, block_change}
use Rattle.chain_committees.specs.Links.{Marked}
use Rattle.chain_committees.specs.LinkRuns.{places_over, rows_over}
use Rattle.chain_committees.proofs.RunLaws.{SameAt}
use Rattle.terms.specs.declared.sheet.Weight.{Weight}

-- ---- a place

-- a record's transactions, one by one
pub record_fold : (t : List ℕ) (m r : ℕ) (w : List Weight) → changes (content_at t m r).transactions w ≡ fold_to (λ k. change (transaction_at t m r k)) (count_at t m r) w
record_fold t m r w = rw (content-transactions t m r) (changes-tab (transaction_at t m r) (count_at t m r) w)

module _ (t : List ℕ) (m r : ℕ) (w : List Weight) where
  -- the three words of a slot
  pub slot_words : (k : ℕ) → slot_change t m r k w ≡ cond (ltb k (count_at t m r)) (change (read_transaction (kind_at t m r k) (number_at t m r k) (amount_at t m r k)) w) w
  unfolding slot_change
  slot_words k = rw (transaction-words t m r k) refl

  -- a record's transactions are those of its four slots that are there
  pub record_slots : changes (content_at t m r).transactions w ≡ fold_to (slot_change t m r) 4 w
  unfolding slot_change
  record_slots =
      record_fold t m r w
      ∙ fold_same (λ k. change (transaction_at t m r k)) (slot_change t m r) (count_at t m r) w (λ k v h. rw (lt-ltb k (count_at t m r) h) refl)
      ∙ sym (fold_high (slot_change t m r) 4 (count_at t m r) w (count_le t m r) (λ k v h _. rw (le-ltb k (count_at t m r) h) refl))

  -- none, if it has none
  pub record_empty : count_at t m r ≡ 0 → w ≡ changes (content_at t m r).transactions w
  record_empty e = sym (record_fold t m r w ∙ rw e (fold_to_none (λ k. change (transaction_at t m r k)) w))

module _ (t : List ℕ) (k m r : ℕ) (w : List Weight) where
  -- a place that is not held changes nothing
  pub place-absent : held_at t m r ≡ false → changes_of (at_most_one (holds_at t k m r)) w ≡ w
  place-absent e = rw (holds-absent t k m r e) (changes-none w)

  -- neither does one with another mark
  pub place_other : (mark_at t m r ≡ k → ⊥) → changes_of (at_most_one (holds_at t k m r)) w ≡ w
  place_other e = rw (holds-other t k m r e) (changes-none w)

  pub place-present : held_at t m r ≡ true → mark_at t m r ≡ k → changes_of (at_most_one (holds_at t k m r)) w ≡ changes (content_at t m r).transactions w
  place-present e q = rw (holds-present t k m r e q) (changes-one (content_at t m r) w)

-- a place that is not marked changes nothing
place-unmarked : (t : List ℕ) (k p : ℕ) (w : List Weight) → (Marked t k p → ⊥) → place_change t k p w ≡ w
unfolding place_change
place-unmarked t k p w n = go (held_at t (p % 16) (p / 16)) refl
  where
    go : (b : Bool) → held_at t (p % 16) (p / 16) ≡ b → changes_of (at_most_one (holds_at t k (p % 16) (p / 16))) w ≡ w
    go true e = place_other t k (p % 16) (p / 16) w (λ q. n (record { held = e; mark = q }))
    go false e = place-absent t k (p % 16) (p / 16) w e

-- going by the records of a block's places is going by what it holds
pub same_at : (t : List ℕ) (k : ℕ) → SameAt t k (place_change t k) (record_change t)
unfolding place_change record_change
same_at t k =
    record {
      marked = λ p w x. sym (place-present t k (p % 16) (p / 16) w x.held x.mark);
      other = λ p w n. place-unmarked t k p w n;
    }

-- ---- a block

-- by round, then numbers from that of its start on
pub block-rows : (S : Settings) (t : List ℕ) (k : ℕ) (w : List Weight) → block_change S t k w ≡ rows_over (place_change t (k + 1)) (start_at S t k) S.ceiling w
unfolding block_change start_at rows_over places_over place_change
block-rows S t k w =
    let n = S.ceiling in
    let a = start_at S t k in
    rw (ordered-rows S (block_at n t (k + 1)) (chain_of n t k)) (rows-changes (block_at n t (k + 1)) a n w)
    ∙ fold_same (λ r. fold_to (λ m. changes_of (at_most_one ((block_at n t (k + 1)).holds ((a + m) % 16) (suc r)))) 16)
    (λ r. fold_to (λ m. changes_of (at_most_one (holds_at t (k + 1) (((r + 1) * 16 + (a + m) % 16) % 16) (((r + 1) * 16 + (a + m) % 16) / 16)))) 16) n w
    (λ r v h. fold_same (λ m. changes_of (at_most_one ((block_at n t (k + 1)).holds ((a + m) % 16) (suc r)))) (λ m. changes_of (at_most_one (holds_at t (k + 1) (((r + 1) * 16 + (a + m) % 16) % 16) (((r + 1) * 16 + (a + m) % 16) / 16)))) 16 v
    (λ m u _.
    let i : ((r + 1) * 16 + (a + m) % 16) % 16 ≡ (a + m) % 16 = omega arith in
    let j : ((r + 1) * 16 + (a + m) % 16) / 16 ≡ suc r = omega arith in
    rw (i, j, block_inside n t (k + 1) ((a + m) % 16) (suc r) (omega arith) h) refl))
