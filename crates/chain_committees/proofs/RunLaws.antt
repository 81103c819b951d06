-- Laws of places one after the other: going by the links is going place by place.
use Rattle.std.proofs.Common.{◌≡◌, refl, sym, ap, ◌∙◌, cond, List, ℕ, zero, suc, ◌+◌, ◌-◌, ◌*◌, ◌/◌, ◌%◌, ◌<◌, ◌≤◌, arith, get_or, length, leb, lt-ltb, le-ltb, le-leb}
use Rattle.base.proofs.Words.{dec_lt, lt-leb}
use Rattle.base.specs.Folds.{fold_to}
use Rattle.base.proofs.FoldLaws.{fold_more, fold_to_none, fold_same, fold_high, fold_join}
use Rattle.chain_committees.specs.Links.{Marked, First, Links}
use Rattle.chain_committees.specs.LinkRuns.{run_over, row_over, places_over, rows_over, run_end}

-- ---- one place of a run

module _ {A : Type 0} (f : ℕ → A → A) (next : List ℕ) (y z : ℕ) where
  pub run_step : (n q : ℕ) (x : A) → q < z → run_over f next y z (suc n) q x ≡ run_over f next y z n (get_or next q 0) (cond (leb y q) (f q x) x)
  unfolding run_over
  run_step n q x h = rw (lt-ltb q z h) refl

  pub run_stop : (n q : ℕ) (x : A) → z ≤ q → run_over f next y z n q x ≡ x
  unfolding run_over
  run_stop zero q x h = refl
  run_stop (suc n) q x h = rw (le-ltb q z h) refl

  pub run_none : (q : ℕ) (x : A) → run_over f next y z 0 q x ≡ x
  unfolding run_over
  run_none q x = refl

  -- of sixteen steps, after i of them
  pub run_left : (i q : ℕ) (x : A) → i < 16 → q < z → run_over f next y z (16 - (i + 1)) (get_or next q 0) (cond (leb y q) (f q x) x) ≡ run_over f next y z (16 - i) q x
  run_left i q x h l = let e : 16 - i ≡ suc (16 - (i + 1)) = omega arith in rw e (sym (run_step (16 - (i + 1)) q x l))

  pub run_all : (i q : ℕ) (x : A) → 16 ≤ i → run_over f next y z (16 - i) q x ≡ x
  run_all i q x h = let e : 16 - i ≡ 0 = omega arith in rw e (run_none q x)

module _ (next : List ℕ) (z : ℕ) where
  pub end_step : (n q : ℕ) → q < z → run_end next z (suc n) q ≡ run_end next z n (get_or next q 0)
  unfolding run_end
  end_step n q h = rw (lt-ltb q z h) refl

  pub end_stop : (n q : ℕ) → z ≤ q → run_end next z n q ≡ q
  unfolding run_end
  end_stop zero q h = refl
  end_stop (suc n) q h = rw (le-ltb q z h) refl

  pub end_none : (q : ℕ) → run_end next z 0 q ≡ q
  unfolding run_end
  end_none q = refl

  pub end_left : (i q : ℕ) → i < 16 → q < z → run_end next z (16 - (i + 1)) (get_or next q 0) ≡ run_end next z (16 - i) q
  end_left i q h l = let e : 16 - i ≡ suc (16 - (i + 1)) = omega arith in rw e (sym (end_step (16 - (i + 1)) q l))

  pub end_all : (i q : ℕ) → 16 ≤ i → run_end next z (16 - i) q ≡ q
  end_all i q h = let e : 16 - i ≡ 0 = omega arith in rw e (end_none q)

-- ---- linked places

-- the places of block k from a on and below e are linked: p is the first of them
pub record LinkedFrom (t next : List ℕ) (k a e p : ℕ) : Type 0 where
  pub first : First t k a e p
  pub nexts : (q : ℕ) → a ≤ q → q < e → Marked t k q → First t k (q + 1) e (get_or next q 0)
  pub size : e ≤ length next

module _ {t next : List ℕ} {k e : ℕ} where
  -- from the head of a block
  pub linked-head : {head : List ℕ} → k < 512 → Links t 16 e head next → LinkedFrom t next k 16 e (get_or head k 0)
  linked-head h l = record { first = l.heads k h; nexts = λ q x y m. l.nexts k q h x y m; size = l.next_size }

  -- from further on, where no place is passed over
  pub linked_up : {a p : ℕ} (b : ℕ) → a ≤ b → b ≤ p → LinkedFrom t next k a e p → LinkedFrom t next k b e p
  linked_up b h i l =
      record {
        first = record { from = i; to = l.first.to; here = l.first.here; skipped = λ j x y m. l.first.skipped j (omega arith) y m };
        nexts = λ q x y m. l.nexts q (omega arith) y m;
        size = l.size;
      }

  -- from the next one on
  pub linked-next : {a p : ℕ} → p < e → LinkedFrom t next k a e p → LinkedFrom t next k (p + 1) e (get_or next p 0)
  linked-next {a} {p} h l =
      let i = l.first.from in
      record { first = l.nexts p i h (l.first.here h); nexts = λ q x y m. l.nexts q (omega arith) y m; size = l.size }

-- ---- along the links, and place by place

-- f does nothing where there is no place of block k, and g does the same where there is one
pub record SameAt {A : Type 0} (t : List ℕ) (k : ℕ) (f g : ℕ → A → A) : Type 0 where
  pub marked : (p : ℕ) (x : A) → Marked t k p → g p x ≡ f p x
  pub other : (p : ℕ) (x : A) → (Marked t k p → ⊥) → f p x ≡ x

-- what f does at the places from y on and below z
abbrev span : {A : Type 0} → (ℕ → A → A) → ℕ → ℕ → A → A
span f y z x = fold_to (λ i. f (y + i)) (z - y) x

module _ {A : Type 0} {t : List ℕ} {k : ℕ} {f g : ℕ → A → A} (s : SameAt t k f g) where
  -- places that are passed over
  span-skip : (y a z : ℕ) (x : A) → a ≤ z → ((i : ℕ) → a ≤ i → i < z → Marked t k i → ⊥) → span f y z x ≡ span f y a x
  span-skip y a z x h n = fold_high (λ i. f (y + i)) (z - y) (a - y) x (omega arith) (λ i v b c. s.other (y + i) v (n (y + i) (omega arith) (omega arith)))

  span_none : (y z : ℕ) (x : A) → z ≤ y → span f y z x ≡ x
  span_none y z x h = let q : z - y ≡ 0 = omega arith in rw q (fold_to_none (λ i. f (y + i)) x)

  span_more : (y p : ℕ) (x : A) → y ≤ p → span f y (p + 1) x ≡ f p (span f y p x)
  span_more y p x h =
      let i : p + 1 - y ≡ p - y + 1 = omega arith in
      let j : y + (p - y) ≡ p = omega arith in
      rw (i, fold_more (λ i. f (y + i)) (p - y) x, j) refl

  -- a place of the block, where all below it is done
  span-place : (y p : ℕ) (x : A) → Marked t k p → cond (leb y p) (g p (span f y p x)) (span f y p x) ≡ span f y (p + 1) x
  span-place y p x m = go (dec_lt p y)
    where
      go : Dec (p < y) → cond (leb y p) (g p (span f y p x)) (span f y p x) ≡ span f y (p + 1) x
      go (yes d) = rw (lt-leb y p d) (span_none y p x (omega arith) ∙ sym (span_none y (p + 1) x (omega arith)))
      go (no d) = rw (le-leb y p (omega arith), s.marked p (span f y p x) m) (sym (span_more y p x (omega arith)))

  -- rows without a place of the block
  places-none : (a r : ℕ) (x : A) → ((i : ℕ) → r * 16 ≤ i → i < r * 16 + 16 → Marked t k i → ⊥) → places_over f a r x ≡ x
  unfolding places_over
  places-none a r x n = fold_high (λ m. f (r * 16 + (a + m) % 16)) 16 0 x (omega arith) (λ m y b c. s.other (r * 16 + (a + m) % 16) y (n (r * 16 + (a + m) % 16) (omega arith) (omega arith))) ∙ fold_to_none (λ m. f (r * 16 + (a + m) % 16)) x

  rows-skip : (a j m : ℕ) (x : A) → j ≤ m → ((i : ℕ) → j * 16 + 16 ≤ i → i < m * 16 + 16 → Marked t k i → ⊥) → rows_over f a m x ≡ rows_over f a j x
  unfolding rows_over
  rows-skip a j m x h n = fold_high (λ r. places_over f a (r + 1)) m j x h (λ r y b c. places-none a (r + 1) y (λ i u v. n i (omega arith) (omega arith)))

  rows_none : (a : ℕ) (x : A) → rows_over f a 0 x ≡ x
  unfolding rows_over
  rows_none a x = fold_to_none (λ r. places_over f a (r + 1)) x

  rows_more : (a n : ℕ) (x : A) → rows_over f a (n + 1) x ≡ places_over f a (n + 1) (rows_over f a n x)
  unfolding rows_over
  rows_more a n x = fold_more (λ r. places_over f a (r + 1)) n x

  module _ {next : List ℕ} {e : ℕ} where
    -- from place p on, where all below a is done
    run-from : (y z n a p : ℕ) (x : A) → a ≤ z → z ≤ e → z ≤ a + n → LinkedFrom t next k a e p → run_over g next y z n p (span f y a x) ≡ span f y z x
    run-from y z zero a p x h l u c = let q : a ≡ z = omega arith in run_none g next y z p (span f y a x) ∙ rw q refl
    run-from y z (suc n) a p x h l u c = go (dec_lt p z) (λ i m. run-from y z n (p + 1) (get_or next p 0) x i l m)
      where
        below : span f y p x ≡ span f y a x
        below = span-skip y a p x c.first.from c.first.skipped

        go : Dec (p < z) → (p + 1 ≤ z → z ≤ p + 1 + n → LinkedFrom t next k (p + 1) e (get_or next p 0) → run_over g next y z n (get_or next p 0) (span f y (p + 1) x) ≡ span f y z x)
            → run_over g next y z (suc n) p (span f y a x) ≡ span f y z x
        go (yes d) more =
            let i = c.first.from in
            run_step g next y z n p (span f y a x) d
            ∙ rw (← below) (rw (span-place y p x (c.first.here (omega arith))) (more (omega arith) (omega arith) (linked-next (omega arith) c)))
        go (no d) more = run_stop g next y z (suc n) p (span f y a x) (omega arith) ∙ sym (span-skip y a z x h (λ i b q. c.first.skipped i b (omega arith)))

    run-span : (y z n a p : ℕ) (x : A) → a ≤ y → a ≤ z → z ≤ e → z ≤ a + n → LinkedFrom t next k a e p → run_over g next y z n p x ≡ span f y z x
    run-span y z n a p x h i l u c = ap (run_over g next y z n p) (sym (span_none y a x h)) ∙ run-from y z n a p x i l u c

    -- a row from member a on
    row-places : (a p : ℕ) (x : A) → a ≤ 16 → p / 16 * 16 + 16 ≤ e → LinkedFrom t next k (p / 16 * 16) e p → row_over g next a p x ≡ places_over f a (p / 16) x
    unfolding row_over places_over
    row-places a p x h l c =
        let r = p / 16 * 16 in
        let u = span f (r + a) (r + 16) x in
        let i : r + 16 - (r + a) ≡ 16 - a = omega arith in
        let j : r + a - r ≡ a = omega arith in
        let m : 16 - a + a ≡ 16 = omega arith in
        ap (λ (v : A). run_over g next r (r + a) 16 p v) (run-span (r + a) (r + 16) 16 r p x (omega arith) (omega arith) l (omega arith) c)
        ∙ run-span r (r + a) 16 r p u (omega arith) (omega arith) (omega arith) (omega arith) c
        ∙ rw (i, j)
        (fold_same (λ v. f (r + v)) (λ v. f (r + (a + (16 - a + v)) % 16)) a (fold_to (λ v. f (r + a + v)) (16 - a) x) (λ v y b. let q : r + v ≡ r + (a + (16 - a + v)) % 16 = omega arith in ap (λ (z : ℕ). f z y) q)
        ∙ ap (fold_to (λ v. f (r + (a + (16 - a + v)) % 16)) a)
        (fold_same (λ v. f (r + a + v)) (λ v. f (r + (a + v) % 16)) (16 - a) x (λ v y b. let q : r + a + v ≡ r + (a + v) % 16 = omega arith in ap (λ (z : ℕ). f z y) q))
        ∙ sym (fold_join (λ v. f (r + (a + v) % 16)) (16 - a) a x)
        ∙ rw m refl)

-- the first place after a run is linked too
module _ {t next : List ℕ} {k e : ℕ} (z : ℕ) where
  pub end_linked : (n a p : ℕ) → a ≤ z → z ≤ e → z ≤ a + n → LinkedFrom t next k a e p → LinkedFrom t next k z e (run_end next z n p)
  end_linked zero a p h l u c = let q : a ≡ z = omega arith in rw (end_none next z p, ← q) c
  end_linked (suc n) a p h l u c = go (dec_lt p z) (λ i m. end_linked n (p + 1) (get_or next p 0) i l m)
    where
      go : Dec (p < z) → (p + 1 ≤ z → z ≤ p + 1 + n → LinkedFrom t next k (p + 1) e (get_or next p 0) → LinkedFrom t next k z e (run_end next z n (get_or next p 0))) → LinkedFrom t next k z e (run_end next z (suc n) p)
      go (yes d) more = let i = c.first.from in rw (end_step next z n p d) (more (omega arith) (omega arith) (linked-next (omega arith) c))
      go (no d) more = rw (end_stop next z (suc n) p (omega arith)) (linked_up z h (omega arith) c)

-- ---- row by row

-- a walk over the rows of block k is at place p: the block's first one from that row on
pub record AtRow (t next : List ℕ) (k e p : ℕ) : Type 0 where
  pub low : 16 ≤ p
  pub whole : e % 16 ≡ 0
  pub linked : LinkedFrom t next k (p / 16 * 16) e p

module _ {t next : List ℕ} {k e : ℕ} where
  -- it begins at the first place of the block
  pub row_first : {head : List ℕ} → k < 512 → e % 16 ≡ 0 → Links t 16 e head next → AtRow t next k e (get_or head k 0)
  row_first h w l = let d = linked-head h l in let i = d.first.from in record { low = i; whole = w; linked = linked_up _ (omega arith) (omega arith) d }

  -- and goes on to the first one behind the row
  behind : {p q : ℕ} → p < e → AtRow t next k e p → q ≡ run_end next (p / 16 * 16 + 16) 16 p → LinkedFrom t next k (p / 16 * 16 + 16) e q
  behind {p} h a i = rw i (end_linked (p / 16 * 16 + 16) 16 (p / 16 * 16) p (omega arith) (omega (arith, a.whole)) (omega arith) a.linked)

  pub row_above : {p q : ℕ} → p < e → AtRow t next k e p → q ≡ run_end next (p / 16 * 16 + 16) 16 p → p / 16 * 16 + 16 ≤ q
  row_above h a i = (behind h a i).first.from

  pub row_on : {p q : ℕ} → p < e → AtRow t next k e p → q ≡ run_end next (p / 16 * 16 + 16) 16 p → AtRow t next k e q
  row_on h a i = let d = behind h a i in let j = d.first.from in record { low = omega (arith, a.low); whole = a.whole; linked = linked_up _ (omega arith) (omega arith) d }

  module _ {A : Type 0} {f g : ℕ → A → A} (s : SameAt t k f g) (a : ℕ) where
    -- up to the row of the first place nothing is done
    pub rows-first : {head : List ℕ} (x : A) → k < 512 → Links t 16 e head next → rows_over f a (get_or head k 0 / 16 - 1) x ≡ x
    rows-first {head} x h l =
        let c = linked-head h l in
        let i = c.first.from in
        rows-skip s a 0 (get_or head k 0 / 16 - 1) x (omega arith) (λ j u v. c.first.skipped j (omega arith) (omega arith)) ∙ rows_none s a x

    -- from one row to the next one: the first of them is done
    pub rows_step : (p q : ℕ) (x : A) → p < e → AtRow t next k e p → q ≡ run_end next (p / 16 * 16 + 16) 16 p → rows_over f a (q / 16 - 1) x ≡ places_over f a (p / 16) (rows_over f a (p / 16 - 1) x)
    rows_step p q x h c e =
        let d = behind h c e in
        let i = d.first.from in
        let low = c.low in
        let j : p / 16 - 1 + 1 ≡ p / 16 = omega arith in
        let m : rows_over f a (p / 16) x ≡ places_over f a (p / 16) (rows_over f a (p / 16 - 1) x) = rw j at (rows_more s a (p / 16 - 1) x) in
        rows-skip s a (p / 16) (q / 16 - 1) x (omega arith) (λ v b u. d.first.skipped v (omega arith) (omega arith)) ∙ m

    -- going by the links
    pub rows_next : (p q : ℕ) (x : A) → a ≤ 16 → p < e → AtRow t next k e p → q ≡ run_end next (p / 16 * 16 + 16) 16 p → rows_over f a (q / 16 - 1) x ≡ row_over g next a p (rows_over f a (p / 16 - 1) x)
    rows_next p q x l h c e = rows_step p q x h c e ∙ sym (row-places s a p (rows_over f a (p / 16 - 1) x) l (omega (arith, c.whole)) c.linked)
