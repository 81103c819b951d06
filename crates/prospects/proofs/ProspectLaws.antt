-- What a preview tells, round by round: what anchors reach, the words of their blocks, and how many words these are.
use Rattle.std.proofs.Common.{◌≡◌, refl, sym, ap, ◌∙◌, Bool, true, false, cond, not, ◌&&◌, ◌||◌, List, [], ◌++◌, append-nil, ℕ, zero, suc, ◌+◌, ◌-◌, ◌*◌, ◌<◌, ◌≤◌, arith, eqb, ltb, get_or, length, length-append, lt-ltb, le-ltb}
use Rattle.base.proofs.Words.{or-false}
use Rattle.base.specs.Sets.{only}
use Rattle.store.specs.Table.{mark_at}
use Rattle.blocks.specs.History.{in_history}
use Rattle.blocks.proofs.HistoryLaws.{history-above}
use Rattle.blocks.specs.Blocks.{count_step, count_after}
use Rattle.prospects.specs.Prospects.{is_new, block_words, reach_step, words_step, reach_after, words_after}
use Rattle.prospects.proofs.RowLaws.{rows-to}
use Rattle.prospects.proofs.CountLaws.{place_count, rows-counted, places-add, places-none}

module _ (t l : List ℕ) (m : ℕ) where
  -- no round yet
  pub reach_none : (i q : ℕ) → reach_after t l m (m - m) i q ≡ false
  unfolding reach_after
  reach_none i q = let e : m - m ≡ 0 = omega arith in rw e refl

  pub count_none : (k : ℕ) → count_after l m (m - m) k ≡ k
  unfolding count_after
  count_none k = let e : m - m ≡ 0 = omega arith in rw e refl

  pub words-none : (k : ℕ) → words_after t l m (m - m) k ≡ []
  unfolding words_after
  words-none k = let e : m - m ≡ 0 = omega arith in rw e refl

  -- one round more
  module _ (r : ℕ) (from : m ≤ r) where
    abbrev a : ℕ
    a = get_or l (suc r) 0

    next : suc r - m ≡ suc (r - m)
    next = omega arith

    at : m + suc (r - m) ≡ suc r
    at = omega arith

    -- with an anchor
    pub reach_led : a < 16 → (i q : ℕ) → reach_after t l m (suc r - m) i q ≡ (reach_after t l m (r - m) i q || in_history t (suc r) (only a) i q)
    unfolding reach_after reach_step
    reach_led h i q = rw (next, at, lt-ltb a 16 h) refl

    pub count-led : a < 16 → (k : ℕ) → count_after l m (suc r - m) k ≡ count_after l m (r - m) k + 1
    unfolding count_after count_step
    count-led h k = rw (next, at, lt-ltb a 16 h) refl

    pub words-led : a < 16 → (k : ℕ) → words_after t l m (suc r - m) k ≡ words_after t l m (r - m) k ++ block_words t (reach_after t l m (r - m)) (count_after l m (r - m) k + 1) a (suc r)
    unfolding words_after words_step
    words-led h k = rw (next, at, lt-ltb a 16 h) refl

    -- without one
    pub reach_passed : 16 ≤ a → (i q : ℕ) → reach_after t l m (suc r - m) i q ≡ reach_after t l m (r - m) i q
    unfolding reach_after reach_step
    reach_passed h i q = rw (next, at, le-ltb a 16 h) (or-false (reach_after t l m (r - m) i q))

    pub count-passed : 16 ≤ a → (k : ℕ) → count_after l m (suc r - m) k ≡ count_after l m (r - m) k
    unfolding count_after count_step
    count-passed h k = rw (next, at, le-ltb a 16 h) refl

    pub words-passed : 16 ≤ a → (k : ℕ) → words_after t l m (suc r - m) k ≡ words_after t l m (r - m) k
    unfolding words_after words_step
    words-passed h k = rw (next, at, le-ltb a 16 h) (append-nil (words_after t l m (r - m) k))

  -- ---- how many words

  -- the places that the anchors of the n rounds above m reach and that are in no block
  abbrev pub taken : ℕ → ℕ → ℕ → Bool
  taken n i q = reach_after t l m n i q && eqb (mark_at t i q) 0

  -- three words for each of them, since each comes into one block only
  pub words_count : (most n k : ℕ) → m + n ≤ most → length (words_after t l m n k) ≡ 3 * place_count (taken n) most
  unfolding words_after reach_after reach_step words_step
  words_count most zero k h = let e = places-none most in omega arith
  words_count most (suc n) k h = go (ltb a 16) (words_count most n k (omega arith))
    where
      r : ℕ
      r = m + suc n

      a : ℕ
      a = get_or l r 0

      f : ℕ → ℕ → Bool
      f = reach_after t l m n

      w : List ℕ
      w = words_after t l m n k

      c : ℕ
      c = count_after l m n k

      block : length (block_words t f (c + 1) a r) ≡ 3 * place_count (is_new t f a r) most
      block = ap length (sym (rows-to (is_new t f a r) (c + 1) a most r h (λ i q _ l _. rw (history-above t r (only a) i q l) refl))) ∙ rows-counted (is_new t f a r) (c + 1) a most

      one : (x y z : Bool) → cond ((x || y) && z) 1 0 ≡ cond (x && z) 1 0 + cond (y && (not x && z)) 1 0
      one true true true = refl
      one true true false = refl
      one true false true = refl
      one true false false = refl
      one false true z = omega arith
      one false false z = refl

      go : (b : Bool) → length w ≡ 3 * place_count (taken n) most
          → length (w ++ cond b (block_words t f (c + 1) a r) []) ≡ 3 * place_count (λ i q. (f i q || (b && in_history t r (only a) i q)) && eqb (mark_at t i q) 0) most
      go true e =
          let p = places-add (taken n) (is_new t f a r) (λ i q. (f i q || in_history t r (only a) i q) && eqb (mark_at t i q) 0) most
          (λ i q. one (f i q) (in_history t r (only a) i q) (eqb (mark_at t i q) 0)) in
          let b = block in
          rw (length-append w (block_words t f (c + 1) a r)) (omega arith)
      go false e =
          let p = places-add (taken n) (λ i q. false) (λ i q. (f i q || false) && eqb (mark_at t i q) 0) most (λ i q. one (f i q) false (eqb (mark_at t i q) 0)) in
          let z = places-none most in
          rw (append-nil w) (omega arith)
