-- Laws of what a block holds, place by place: by the links of its places, by its rows, and counted.
use Rattle.std.proofs.Common.{◌≡◌, refl, sym, ap, ◌∙◌, Bool, true, false, List, [], ◌∷◌, ◌++◌, append_assoc, append-nil, ℕ, zero, suc, ◌+◌, ◌-◌, ◌*◌, ◌/◌, ◌%◌, ◌<◌, ◌≤◌, arith, add-one, get_or, length, length-append}
use Rattle.base.specs.Folds.{fold_to, sum_to}
use Rattle.base.proofs.Ranges.{fold_none, fold_next, sum_none, sum_next}
use Rattle.base.proofs.FoldLaws.{fold_to_none, fold_more, fold_high}
use Rattle.base.proofs.SumLaws.{sum_more, sum_same, sum_to_none, sum_up, sum_turned}
use Rattle.terms.specs.Proposals.{Content}
use Rattle.store.specs.Table.{held_at, mark_at, content_at}
use Rattle.committee.specs.Changes.{row, rows}
use Rattle.committee.specs.Chain.{block_at}
use Rattle.committee.proofs.ChainLaws.{holds-present, holds-other, holds-absent, block_inside}
use Rattle.committee.proofs.OrderLaws.{row-none, row_more, rows_none, rows_more}
use Rattle.chain_committees.specs.Links.{Marked}
use Rattle.chain_committees.specs.LinkRuns.{places_over, rows_over}
use Rattle.chain_committees.proofs.RunLaws.{SameAt, LinkedFrom, linked-next}
use Rattle.extents.specs.Together.{InRound, Below, Above}
use Rattle.listing.proofs.CountLaws.{sum_join}
use Rattle.spans.specs.Rows.{place_held, add_held, row_held}

-- how many certificates of block k a place holds: one or none
abbrev pub held_count : List ℕ → ℕ → ℕ → ℕ
held_count t k p = length (place_held t k p)

module _ (t : List ℕ) (k : ℕ) where
  -- ---- a place

  module _ (p : ℕ) where
    pub held_absent : held_at t (p % 16) (p / 16) ≡ false → place_held t k p ≡ []
    unfolding place_held
    held_absent e = rw (holds-absent t k (p % 16) (p / 16) e) refl

    pub held_other : (mark_at t (p % 16) (p / 16) ≡ k → ⊥) → place_held t k p ≡ []
    unfolding place_held
    held_other e = rw (holds-other t k (p % 16) (p / 16) e) refl

    pub held_present : held_at t (p % 16) (p / 16) ≡ true → mark_at t (p % 16) (p / 16) ≡ k → place_held t k p ≡ content_at t (p % 16) (p / 16) ∷ []
    unfolding place_held
    held_present e q = rw (holds-present t k (p % 16) (p / 16) e q) refl

    unmarked : (Marked t k p → ⊥) → place_held t k p ≡ []
    unmarked f = go (held_at t (p % 16) (p / 16)) refl
      where
        go : (h : Bool) → held_at t (p % 16) (p / 16) ≡ h → place_held t k p ≡ []
        go true e = held_other (λ q. f (record { held = e; mark = q }))
        go false e = held_absent e

    pub held_one : Marked t k p → held_count t k p ≡ 1
    held_one m = rw (held_present m.held m.mark) refl

  in_round : {p r : ℕ} → Marked t k p → p / 16 ≡ r → InRound t k r
  in_round {p} m e = record { author = p % 16; held = rw e at m.held; mark = rw e at m.mark }

  pub same_at : SameAt t k (add_held t k) (add_held t k)
  unfolding add_held
  same_at = record { marked = λ p l m. refl; other = λ p l n. rw (unmarked p n) (append-nil l) }

  -- ---- places by any numbers, after others

  module _ (g : ℕ → ℕ) where
    pub places_length : (n : ℕ) → length (fold_to (λ i. add_held t k (g i)) n []) ≡ sum_to (λ i. held_count t k (g i)) n
    unfolding add_held
    places_length zero = rw (fold_none (λ i. add_held t k (g i)) [], sum_none (λ i. held_count t k (g i))) refl
    places_length (suc n) =
        rw (
          fold_next (λ i. add_held t k (g i)) n [],
          sum_next (λ i. held_count t k (g i)) n,
          length-append (fold_to (λ i. add_held t k (g i)) n []) (place_held t k (g n)),
          places_length n,
        )
        refl

    places_after : (n : ℕ) (x : List Content) → fold_to (λ i. add_held t k (g i)) n x ≡ x ++ fold_to (λ i. add_held t k (g i)) n []
    unfolding add_held
    places_after zero x = rw (fold_none (λ i. add_held t k (g i)) x, fold_none (λ i. add_held t k (g i)) []) (sym (append-nil x))
    places_after (suc n) x =
        rw (fold_next (λ i. add_held t k (g i)) n x, fold_next (λ i. add_held t k (g i)) n [], places_after n x)
        (append_assoc x (fold_to (λ i. add_held t k (g i)) n []) (place_held t k (g n)))

  -- ---- a row

  module _ (a r : ℕ) where
    -- what the first n numbers from member a on hold
    unfoldable pub first_held : ℕ → List Content
    first_held n = fold_to (λ i. add_held t k (r * 16 + (a + i) % 16)) n []

    pub first_none : first_held 0 ≡ []
    unfolding first_held
    first_none = fold_to_none (λ i. add_held t k (r * 16 + (a + i) % 16)) []

    pub first_next : (i : ℕ) → first_held (i + 1) ≡ first_held i ++ place_held t k (r * 16 + (a + i) % 16)
    unfolding first_held add_held
    first_next i = fold_more (λ i. add_held t k (r * 16 + (a + i) % 16)) i []

    pub first_all : row_held t k a r ≡ first_held 16
    unfolding first_held places_over
    first_all = refl

    pub first_room : (i : ℕ) → i < 16 → length (first_held i) + held_count t k (r * 16 + (a + i) % 16) ≤ length (row_held t k a r)
    unfolding first_held places_over
    first_room i h =
        let g : ℕ → ℕ = λ j. r * 16 + (a + j) % 16 in
        let f : ℕ → ℕ = λ j. held_count t k (g j) in
        omega (arith, places_length g i, places_length g 16, sum_more f i, sum_up f (i + 1) 16 (omega arith))

    -- after the rows below it
    pub row_after : (x : List Content) → places_over (add_held t k) a r x ≡ x ++ row_held t k a r
    unfolding places_over
    row_after x = places_after (λ i. r * 16 + (a + i) % 16) 16 x

    pub row_length : length (row_held t k a r) ≡ sum_to (λ i. held_count t k (r * 16 + i)) 16
    unfolding places_over
    row_length = places_length (λ i. r * 16 + (a + i) % 16) 16 ∙ sum_turned (λ i. held_count t k (r * 16 + i)) a

    -- as the block's certificates are ordered
    row-by : (n m : ℕ) → 0 < r → r ≤ n → m ≤ 16 → row (block_at n t k) a r m ≡ fold_to (λ i. add_held t k (r * 16 + (a + i) % 16)) m []
    unfolding add_held place_held
    row-by n zero l u h = rw (row-none (block_at n t k) a r, fold_none (λ i. add_held t k (r * 16 + (a + i) % 16)) []) refl
    row-by n (suc m) l u h =
        let e : (r * 16 + (a + m) % 16) % 16 ≡ (a + m) % 16 = omega arith in
        let f : (r * 16 + (a + m) % 16) / 16 ≡ r = omega arith in
        rw (row_more (block_at n t k) a r m, block_inside n t k ((a + m) % 16) r l u, row-by n m l u (omega arith), fold_next (λ i. add_held t k (r * 16 + (a + i) % 16)) m [], e, f) refl

  -- ---- rows

  module _ (a : ℕ) where
    pub rows_further : (i : ℕ) → rows_over (add_held t k) a (i + 1) [] ≡ rows_over (add_held t k) a i [] ++ row_held t k a (i + 1)
    unfolding rows_over
    rows_further i = fold_more (λ r. places_over (add_held t k) a (r + 1)) i [] ∙ row_after a (i + 1) (rows_over (add_held t k) a i [])

    rows_empty : rows_over (add_held t k) a 0 [] ≡ []
    unfolding rows_over
    rows_empty = fold_to_none (λ r. places_over (add_held t k) a (r + 1)) []

    pub rows_by : (n i : ℕ) → i ≤ n → rows (block_at n t k) a i ≡ rows_over (add_held t k) a i []
    unfolding places_over
    rows_by n zero h = rw (rows_none (block_at n t k) a) (sym rows_empty)
    rows_by n (suc i) h =
        rw (rows_more (block_at n t k) a i, rows_by n i (omega arith), row-by a (suc i) n 16 (omega arith) h (omega arith), ← add-one i) (sym (rows_further i))

    -- with what the places before those of round 1 hold, as much as all places hold
    pub rows_length : (i : ℕ) → length (rows_over (add_held t k) a i []) + sum_to (held_count t k) 16 ≡ sum_to (held_count t k) (i * 16 + 16)
    rows_length zero = rw rows_empty (omega arith)
    rows_length (suc i) =
        let h = held_count t k in
        let p = ap length (rows_further i) ∙ length-append (rows_over (add_held t k) a i []) (row_held t k a (i + 1)) in
        let e : (i + 1) * 16 ≡ i * 16 + 16 = omega arith in
        let x = ap (sum_to h) e in
        let y = ap (λ (z : ℕ). sum_to h (z + 16)) e in
        rw (← add-one i, p) (omega (arith, row_length a (i + 1), rows_length i, sum_join h ((i + 1) * 16) 16, x, y))

    -- so there is room for a row, where there is for all
    pub room_next : (q n : ℕ) → q < n → length (rows_over (add_held t k) a q []) + length (row_held t k a (q + 1)) ≤ length (rows_over (add_held t k) a n [])
    room_next q n l =
        let p = ap length (rows_further q) ∙ length-append (rows_over (add_held t k) a q []) (row_held t k a (q + 1)) in
        let u = sum_up (held_count t k) ((q + 1) * 16 + 16) (n * 16 + 16) (omega arith) in
        omega (arith, rows_length (q + 1), rows_length n)

    pub rows_room : (r n : ℕ) → 0 < r → r ≤ n → length (rows_over (add_held t k) a (r - 1) []) + length (row_held t k a r) ≤ length (rows_over (add_held t k) a n [])
    rows_room r n h l = let e : r - 1 + 1 ≡ r = omega arith in rw e at (room_next (r - 1) n (omega arith))

    -- ---- rows without any add nothing

    row-bare : (r : ℕ) (x : List Content) → (InRound t k r → ⊥) → places_over (add_held t k) a r x ≡ x
    unfolding places_over
    row-bare r x n = fold_high (λ m. add_held t k (r * 16 + (a + m) % 16)) 16 0 x (omega arith) (λ m y b c. same_at.other (r * 16 + (a + m) % 16) y (λ u. n (in_round u (omega arith)))) ∙ fold_to_none (λ m. add_held t k (r * 16 + (a + m) % 16)) x

    rows-bare : (j n : ℕ) → j ≤ n → ((q : ℕ) → j ≤ q → q < n → InRound t k (q + 1) → ⊥) → rows_over (add_held t k) a n [] ≡ rows_over (add_held t k) a j []
    unfolding rows_over
    rows-bare j n h f = fold_high (λ r. places_over (add_held t k) a (r + 1)) n j [] h (λ q x b c. row-bare (q + 1) x (f q b c))

    -- those up to a round below all that it holds
    pub rows_below : {n low : ℕ} → low ≤ n → Below n t k low → rows_over (add_held t k) a low [] ≡ []
    rows_below h b = rows-bare 0 _ (omega arith) (λ q x y i. omega (arith, b (q + 1) (omega arith) (omega arith) i)) ∙ rows_empty

    -- and those above a round up to which it goes
    pub rows_above : {n top : ℕ} (q : ℕ) → top ≤ q → q ≤ n → Above n t k top → rows_over (add_held t k) a n [] ≡ rows_over (add_held t k) a q []
    rows_above q h l b = rows-bare q _ l (λ p x y i. omega (arith, b (p + 1) (omega arith) (omega arith) i))

  -- ---- along the links

  module _ {next : List ℕ} {e : ℕ} where
    -- no place before the first one holds any
    pub counted_first : (a p : ℕ) → LinkedFrom t next k a e p → sum_to (held_count t k) p ≡ sum_to (held_count t k) a
    counted_first a p l =
        let h = l.first.from in
        let q : a + (p - a) ≡ p = omega arith in
        let j = rw q at (sum_join (held_count t k) a (p - a)) in
        let z = sum_same (λ i. held_count t k (a + i)) (λ i. 0) (p - a) (λ i u. ap length (unmarked (a + i) (l.first.skipped (a + i) (omega arith) (omega arith)))) ∙ sum_to_none (p - a) in
        omega arith

    -- one more up to the next one
    pub counted_next : (p : ℕ) → p < e → LinkedFrom t next k p e p → sum_to (held_count t k) (get_or next p 0) ≡ sum_to (held_count t k) p + 1
    counted_next p h l =
        let o = held_one p (l.first.here h) in
        omega (arith, counted_first (p + 1) (get_or next p 0) (linked-next h l), sum_more (held_count t k) p)
