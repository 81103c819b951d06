-- Laws of the lines of a chain: block by block, each block row by row, and each row place by place. The place of member m and round r is number 16 r + m.
use Rattle.std.proofs.Common.{◌≡◌, refl, sym, ◌∙◌, Bool, true, false, List, [], ◌++◌, append_assoc, append-nil, ℕ, zero, suc, ◌+◌, ◌*◌, ◌/◌, ◌%◌, ◌<◌, ◌≤◌, arith, add-one, eq-eqb, length}
use Rattle.listing.specs.Lines.{listing_line}
use Rattle.base.specs.Folds.{fold_to, sum_to}
use Rattle.base.proofs.FoldLaws.{fold_more}
use Rattle.base.proofs.SumLaws.{sum_more, sum_up}
use Rattle.base.specs.Puts.{Puts}
use Rattle.base.proofs.PutLaws.{puts_then, puts_as}
use Rattle.base.proofs.Ranges.{fold_none, fold_next}
use Rattle.store.specs.Table.{held_at, mark_at, content_at, block_round}
use Rattle.terms.specs.declared.sheet.Settings.{Settings}
use Rattle.committee.specs.Changes.{at_most_one, row, rows}
use Rattle.committee.proofs.OrderLaws.{row-none, row_more, rows_none, rows_more, ordered-rows}
use Rattle.committee.specs.Chain.{holds_at, block_at, chain_of}
use Rattle.committee.proofs.ChainLaws.{block-round, block_inside, chain-none, chain_more, chain_length}
use Rattle.committee.specs.Committees.{start_of, ordered}
use Rattle.chain_committees.specs.BlockChanges.{start_at}
use Rattle.chain_committees.specs.Links.{Marked}
use Rattle.chain_committees.specs.LinkRuns.{places_over, rows_over}
use Rattle.chain_committees.proofs.RunLaws.{SameAt}
use Rattle.listing.specs.Listing.{content_lines, chain_lines, place_lines, add_lines, row_lines, block_rows}
use Rattle.listing.proofs.ListingLaws.{lines-append, place-absent, place_other, place-present}
use Rattle.listing.specs.Counts.{in_block, row_count}
use Rattle.listing.specs.Listable.{PlaceListable, RowListable}
use Rattle.listing.proofs.CountLaws.{row_turned}

-- the lines of the block after the first k of a table
abbrev pub block_lines : Settings → List ℕ → ℕ → List ℕ
block_lines S t k = content_lines (k + 1) (block_round t (k + 1)) (ordered S (block_at S.ceiling t (k + 1)) (chain_of S.ceiling t k))

-- lists put one after the other, after one more
fold_append : (h : ℕ → List ℕ) (n : ℕ) (x : List ℕ) → fold_to (λ i l. l ++ h i) n x ≡ x ++ fold_to (λ i l. l ++ h i) n []
fold_append h zero x = rw (fold_none (λ i (l : List ℕ). l ++ h i) x, fold_none (λ i (l : List ℕ). l ++ h i) []) (sym (append-nil x))
fold_append h (suc n) x = rw (fold_next (λ i (l : List ℕ). l ++ h i) n x, fold_next (λ i (l : List ℕ). l ++ h i) n [], fold_append h n x) (append_assoc x (fold_to (λ i l. l ++ h i) n []) (h n))

module _ (t : List ℕ) (k : ℕ) where
  -- a place that is not marked has no line
  place-unmarked : (p : ℕ) → (Marked t k p → ⊥) → place_lines t k p ≡ []
  unfolding place_lines
  place-unmarked p f = go (held_at t (p % 16) (p / 16)) refl
    where
      go : (h : Bool) → held_at t (p % 16) (p / 16) ≡ h → content_lines k (block_round t k) (at_most_one (holds_at t k (p % 16) (p / 16))) ≡ []
      go true e = place_other t k (block_round t k) (p % 16) (p / 16) (λ q. f (record { held = e; mark = q }))
      go false e = place-absent t k (block_round t k) (p % 16) (p / 16) e

  pub same_at : SameAt t k (add_lines t k) (add_lines t k)
  unfolding add_lines
  same_at = record { marked = λ p l m. refl; other = λ p l n. rw (place-unmarked p n) (append-nil l) }

  -- a row after the lines before it
  pub row-after : (a r : ℕ) (x : List ℕ) → places_over (add_lines t k) a r x ≡ x ++ row_lines t k a r
  unfolding places_over add_lines
  row-after a r x = fold_append (λ i. place_lines t k (r * 16 + (a + i) % 16)) 16 x

  row-lines : (n a r m : ℕ) → 1 ≤ r → r ≤ n → m ≤ 16 → content_lines k (block_round t k) (row (block_at n t k) a r m) ≡ fold_to (λ i l. l ++ place_lines t k (r * 16 + (a + i) % 16)) m []
  unfolding content_lines place_lines
  row-lines n a r zero l u h = rw (row-none (block_at n t k) a r, fold_none (λ i (l : List ℕ). l ++ place_lines t k (r * 16 + (a + i) % 16)) []) refl
  row-lines n a r (suc m) l u h =
      let i : (r * 16 + (a + m) % 16) % 16 ≡ (a + m) % 16 = omega arith in
      let j : (r * 16 + (a + m) % 16) / 16 ≡ r = omega arith in
      let z = at_most_one (holds_at t k ((a + m) % 16) r) in
      rw (row_more (block_at n t k) a r m, block_inside n t k ((a + m) % 16) r l u, lines-append k (block_round t k) (row (block_at n t k) a r m) z, row-lines n a r m l u (omega arith), fold_next (λ i (l : List ℕ). l ++ place_lines t k (r * 16 + (a + i) % 16)) m [], i, j) refl

  rows-lines : (n a m : ℕ) → m ≤ n → content_lines k (block_round t k) (rows (block_at n t k) a m) ≡ rows_over (add_lines t k) a m []
  unfolding content_lines rows_over fold_to places_over place_lines add_lines
  rows-lines n a zero u = rw (rows_none (block_at n t k) a, fold_none (λ r. places_over (add_lines t k) a (r + 1)) []) refl
  rows-lines n a (suc m) u =
      rw (
        rows_more (block_at n t k) a m,
        lines-append k (block_round t k) (rows (block_at n t k) a m) (row (block_at n t k) a (suc m) 16),
        rows-lines n a m (omega arith),
        row-lines n a (suc m) 16 (omega arith) u (omega arith),
        fold_next (λ r. places_over (add_lines t k) a (r + 1)) m [],
        ← add-one m,
      )
      (sym (row-after a (m + 1) (rows_over (add_lines t k) a m [])))

-- ---- a row place by place

module _ (t : List ℕ) (k r a : ℕ) where
  -- the lines of the first i places of a row, from member a on, and how many they are
  abbrev pub lines_to : ℕ → List ℕ
  lines_to i = fold_to (λ j. add_lines t k (r * 16 + (a + j) % 16)) i []

  abbrev pub count_to : ℕ → ℕ
  count_to i = sum_to (λ j. in_block t k (r * 16 + (a + j) % 16)) i

  -- one place more, that of member m
  pub row_put : {o u v : List ℕ} {at to next : ℕ} (i m : ℕ) → m ≡ (a + i) % 16 → Puts o u at to (lines_to i) (count_to i * 141) → Puts u v to next (place_lines t k (r * 16 + m)) (in_block t k (r * 16 + m) * 141)
      → Puts o v at next (lines_to (i + 1)) (count_to (i + 1) * 141)
  unfolding add_lines
  row_put i m e p q = puts_as (fold_more _ i []) (omega (arith, sum_more (λ j. in_block t k (r * 16 + (a + j) % 16)) i)) (puts_then p (rw e at q))

  row_fits : (i m : ℕ) → m ≡ (a + i) % 16 → i < 16 → count_to i + in_block t k (r * 16 + m) ≤ row_count t k r
  row_fits i m e h =
      let f : ℕ → ℕ = λ j. in_block t k (r * 16 + (a + j) % 16) in
      rw e (omega (arith, sum_more f i, sum_up f (i + 1) 16 (omega arith), row_turned t k a r))

  -- there is room for it
  pub row_ready : {b : ℕ} {o u : List ℕ} {at to : ℕ} (i m : ℕ) → m ≡ (a + i) % 16 → i < 16 → RowListable t k b a r o at → length u ≡ length o → Puts o u at to (lines_to i) (count_to i * 141) → PlaceListable t k b m r u to
  row_ready i m e h d l p =
      record {
        within = record { member = omega arith; row = omega (arith, d.row) };
        round = d.round;
        room = omega (arith, row_fits i m e h, d.room, p.past, p.room);
      }

module _ (S : Settings) (t : List ℕ) where
  -- a block row by row
  pub block-rows : (k : ℕ) → block_lines S t k ≡ rows_over (add_lines t (k + 1)) (start_at S t k) S.ceiling []
  unfolding start_at
  block-rows k =
      let n = S.ceiling in
      rw (ordered-rows S (block_at n t (k + 1)) (chain_of n t k)) (rows-lines t (k + 1) n (start_of S (block_at n t (k + 1)) (chain_of n t k)) n (omega arith))

  -- a chain block by block
  pub lines_none : chain_lines S (chain_of S.ceiling t 0) ≡ []
  unfolding chain_lines
  lines_none = rw (chain-none S.ceiling t) refl

  pub lines_next : (k : ℕ) → chain_lines S (chain_of S.ceiling t (k + 1)) ≡ chain_lines S (chain_of S.ceiling t k) ++ block_rows S t k
  unfolding chain_lines
  lines_next k = let n = S.ceiling in rw (← block-rows k, add-one k, chain_more n t k, chain_length n t k, add-one k, block-round n t (suc k)) refl

module _ (t : List ℕ) (k m r : ℕ) (h : m < 16) where
  place_at : place_lines t k (r * 16 + m) ≡ content_lines k (block_round t k) (at_most_one (holds_at t k m r))
  unfolding place_lines
  place_at =
      let i : (r * 16 + m) % 16 ≡ m = omega arith in
      let j : (r * 16 + m) / 16 ≡ r = omega arith in
      rw (i, j) refl

  -- it has no line where block k does not hold it
  pub line_absent : held_at t m r ≡ false → place_lines t k (r * 16 + m) ≡ []
  line_absent e = place_at ∙ place-absent t k (block_round t k) m r e

  pub line_other : (mark_at t m r ≡ k → ⊥) → place_lines t k (r * 16 + m) ≡ []
  line_other e = place_at ∙ place_other t k (block_round t k) m r e

  -- and one where it does
  pub line_present : held_at t m r ≡ true → mark_at t m r ≡ k → place_lines t k (r * 16 + m) ≡ listing_line k (block_round t k) r m (content_at t m r).transactions
  line_present e q = place_at ∙ place-present t k (block_round t k) m r e q

  pub count_present : mark_at t m r ≡ k → in_block t k (r * 16 + m) ≡ 1
  unfolding in_block
  count_present q =
      let i : (r * 16 + m) % 16 ≡ m = omega arith in
      let j : (r * 16 + m) / 16 ≡ r = omega arith in
      rw (i, j, eq-eqb (mark_at t m r) k q) refl
