-- The number of blocks and the table after a commit.
use Rattle.std.proofs.Common.{◌≡◌, refl, ◌∙◌, Bool, true, false, cond, ◌&&◌, List, ◌⊎◌, inl, inr, ⊎_elim, ℕ, zero, suc, ◌+◌, ◌-◌, ◌≤◌, ◌<◌, arith, add-one, eqb, ltb, get_or, ltb-true, ltb-false, eqb-true}
use Rattle.base.proofs.Words.{ℕ_discrete}
use Rattle.store.specs.Table.{used_length, Row, mark_at, block_round}
use Rattle.store.proofs.MarkLaws.{OnlyMarks, only-all, only-both}
use Rattle.blocks.specs.Anchors.{taken_leaders}
use Rattle.blocks.proofs.TakenLaws.{taken-other}
use Rattle.blocks.specs.Blocks.{add_block, count_step, block_step, count_after, blocks_after, commit_table, commit_count}
use Rattle.blocks.proofs.MarkLaws.{new_mark, block-only, block-mark, block-round-new, block-round-old}

-- after the rounds from m + 1 to r, where there were k blocks on the table t: there are c, on u
pub record Stage (m k : ℕ) (t : List ℕ) (r c : ℕ) (u : List ℕ) : Type 0 where
  pub from : m ≤ r
  pub more : k ≤ c
  pub few : c ≤ k + (r - m)
  -- only marks and block rounds have changed, up to the row of r
  pub only : OnlyMarks (used_length r) t u

-- the mark x, where it was y and the blocks k + 1 to c are new: as it was, or a new block's
abbrev pub Kept : ℕ → ℕ → ℕ → ℕ → Type 0
Kept k c y x = (x ≡ y) ⊎ ((y ≡ 0) × (k < x) × (x ≤ c))

-- the rounds of the blocks k + 1 to c, which are new: above m, up to r, of leaders in l, and rising
pub record NewRounds (l : List ℕ) (m k r c : ℕ) (u : List ℕ) : Type 0 where
  pub inside : (j : ℕ) → k < j → j ≤ c → (m < block_round u j) × (block_round u j ≤ r) × (get_or l (block_round u j) 0 < 16)
  pub rising : (i j : ℕ) → k < i → i < j → j ≤ c → block_round u i < block_round u j

only-more : (r : ℕ) {t u : List ℕ} → OnlyMarks (used_length r) t u → OnlyMarks (used_length (suc r)) t u
only-more r o = record { size = o.size; words = o.words; beyond = λ j h. o.beyond j (omega arith) }

module _ (l : List ℕ) (m k : ℕ) (t : List ℕ) (low : k ≤ m) (P : ℕ → ℕ → List ℕ → Type 0) where
  -- what an anchor's block keeps
  abbrev Made : ℕ → Type 0
  Made n =
      (r c : ℕ) (u : List ℕ) → Stage m k t r c u → r < m + n → get_or l (suc r) 0 < 16 → P r c u
      → P (suc r) (suc c) (add_block (suc c) (get_or l (suc r) 0) (suc r) u)

  -- what a round without an anchor keeps
  abbrev Passed : ℕ → Type 0
  Passed n = (r c : ℕ) (u : List ℕ) → Stage m k t r c u → r < m + n → 16 ≤ get_or l (suc r) 0 → P r c u → P (suc r) c u

  blocks-each : (n : ℕ) → P m k t → Made n → Passed n → Stage m k t (m + n) (count_after l m n k) (blocks_after l m n k t) × P (m + n) (count_after l m n k) (blocks_after l m n k t)
  unfolding count_after blocks_after count_step block_step
  blocks-each zero p f g =
      let e : m + 0 ≡ m = omega arith in
      rw e (record { from = omega arith; more = omega arith; few = omega arith; only = only-all (used_length m) t }, p)
  blocks-each (suc n) p f g =
      let e : m + suc n ≡ suc (m + n) = omega arith in
      rw e (go (ltb (get_or l (suc (m + n)) 0) 16) refl (blocks-each n p (λ r c u s h. f r c u s (omega arith)) (λ r c u s h. g r c u s (omega arith))))
    where
      c : ℕ
      c = count_after l m n k

      u : List ℕ
      u = blocks_after l m n k t

      go : (b : Bool) → ltb (get_or l (suc (m + n)) 0) 16 ≡ b → Stage m k t (m + n) c u × P (m + n) c u
          → Stage m k t (suc (m + n)) (cond b (c + 1) c) (cond b (add_block (c + 1) (get_or l (suc (m + n)) 0) (suc (m + n)) u) u)
          × P (suc (m + n)) (cond b (c + 1) c) (cond b (add_block (c + 1) (get_or l (suc (m + n)) 0) (suc (m + n)) u) u)
      go true e (s, q) =
          rw (add-one c) (
            record {
              from = omega arith;
              more = omega (arith, s.more);
              few = omega (arith, s.few);
              only = only-both (only-more (m + n) s.only) (block-only (suc (m + n)) (suc c) (get_or l (suc (m + n)) 0) (suc (m + n)) u (omega (arith, s.few)) (omega arith));
            },
            f (m + n) c u s (omega arith) (ltb-true (get_or l (suc (m + n)) 0) 16 e) q,
          )
      go false e (s, q) =
          (record { from = omega arith; more = s.more; few = omega (arith, s.few); only = only-more (m + n) s.only }, g (m + n) c u s (omega arith) (ltb-false (get_or l (suc (m + n)) 0) 16 e) q)

-- ---- a commit of the anchor of round top, where k blocks were made and the last of them was of round m

module _ (m top k : ℕ) (l t : List ℕ) (low : k ≤ m) (above : m < top) where
  abbrev left : List ℕ
  left = taken_leaders t m top l

  abbrev count : ℕ
  count = commit_count m top k l t

  abbrev table : List ℕ
  table = commit_table m top k l t

  -- what each anchor's block keeps, oldest first, and each round without an anchor, the commit keeps
  pub commit-each : (P : ℕ → ℕ → List ℕ → Type 0) → P m k t
      → ((r c : ℕ) (u : List ℕ) → Stage m k t r c u → r < top → get_or left (suc r) 0 < 16 → P r c u → P (suc r) (suc c) (add_block (suc c) (get_or left (suc r) 0) (suc r) u))
      → ((r c : ℕ) (u : List ℕ) → Stage m k t r c u → r < top → 16 ≤ get_or left (suc r) 0 → P r c u → P (suc r) c u)
      → P top count table
  unfolding commit_count commit_table
  commit-each P p f g =
      let e : m + (top - m) ≡ top = omega arith in
      rw e at (blocks-each left m k t low P (top - m) p (λ r c u s h. f r c u s (omega arith)) (λ r c u s h. g r c u s (omega arith))).1

  -- at most one block for each round, and only marks and block rounds change
  pub commit-stage : Stage m k t top count table
  unfolding commit_count commit_table
  commit-stage =
      let e : m + (top - m) ≡ top = omega arith in
      rw e at (blocks-each left m k t low (λ r c u. k ≤ m) (top - m) low (λ r c u s h i p. p) (λ r c u s h i p. p)).0

  -- earlier blocks keep their rounds
  pub commit-round-old : (j : ℕ) → j ≤ k → block_round table j ≡ block_round t j
  commit-round-old j h =
      commit-each (λ r c u. block_round u j ≡ block_round t j) refl
      (λ r c u s i a p. block-round-old (suc c) (get_or left (suc r) 0) (suc r) j u (omega (arith, s.more)) ∙ p)
      (λ r c u s i a p. p)

  module _ (long : Row t top) where
    -- a certificate stays in its block; one that is in none comes into a new block, or into none
    pub commit-mark : (a q : ℕ) → a < 16 → 0 < q → Kept k count (mark_at t a q) (mark_at table a q)
    commit-mark a q h z = commit-each (λ r c u. Kept k c (mark_at t a q) (mark_at u a q)) (inl refl) made (λ r c u s i b p. p)
      where
        next : (c x : ℕ) (b : Bool) → k ≤ c → Kept k c (mark_at t a q) x → Kept k (suc c) (mark_at t a q) (new_mark (suc c) b x)
        next c x b l p = go (eqb x 0) refl b
          where
            later : (mark_at t a q ≡ 0) × (k < x) × (x ≤ c) → (mark_at t a q ≡ 0) × (k < x) × (x ≤ suc c)
            later w = (w.0, w.1, omega (arith, w.2))

            free : x ≡ 0 → mark_at t a q ≡ 0
            free e = ⊎_elim (λ w. omega arith) (λ w. w.0) p

            go : (z : Bool) → eqb x 0 ≡ z → (b : Bool) → Kept k (suc c) (mark_at t a q) (cond (z && b) (suc c) x)
            go true e true = inr (free (eqb-true x 0 e), omega arith, omega arith)
            go true e false = ⊎_elim inl (λ w. inr (later w)) p
            go false e b = ⊎_elim inl (λ w. inr (later w)) p

        made : (r c : ℕ) (u : List ℕ) → Stage m k t r c u → r < top → get_or left (suc r) 0 < 16 → Kept k c (mark_at t a q) (mark_at u a q)
            → Kept k (suc c) (mark_at t a q) (mark_at (add_block (suc c) (get_or left (suc r) 0) (suc r) u) a q)
        made r c u s i b p = rw (block-mark (suc c) (get_or left (suc r) 0) (suc r) u (omega (arith, s.only.size)) a q h z) (next c (mark_at u a q) _ s.more p)

    -- the new blocks' rounds are those of the leaders left, and rise
    pub commit-rounds : NewRounds left m k top count table
    commit-rounds =
        commit-each (NewRounds left m k) (record { inside = λ j a b. absurd (omega arith); rising = λ i j a b d. absurd (omega arith) })
        made (λ r c u s i b p. record { inside = λ j a b. let w = p.inside j a b in (w.0, omega (arith, w.1), w.2); rising = p.rising })
      where
        made : (r c : ℕ) (u : List ℕ) → Stage m k t r c u → r < top → get_or left (suc r) 0 < 16 → NewRounds left m k r c u
            → NewRounds left m k (suc r) (suc c) (add_block (suc c) (get_or left (suc r) 0) (suc r) u)
        made r c u s i b p = record { inside = λ j a d. inside j a d (ℕ_discrete j (suc c)); rising = λ i j a b d. rising i j a b d (ℕ_discrete j (suc c)) }
          where
            v : List ℕ
            v = add_block (suc c) (get_or left (suc r) 0) (suc r) u

            new : block_round v (suc c) ≡ suc r
            new = block-round-new (suc c) (get_or left (suc r) 0) (suc r) u (omega (arith, s.few, s.from, s.only.size))

            old : (j : ℕ) → j ≤ c → block_round v j ≡ block_round u j
            old j h = block-round-old (suc c) (get_or left (suc r) 0) (suc r) j u (omega arith)

            inside : (j : ℕ) → k < j → j ≤ suc c → Dec (j ≡ suc c) → (m < block_round v j) × (block_round v j ≤ suc r) × (get_or left (block_round v j) 0 < 16)
            inside j a d (yes e) = rw (e, new) (omega (arith, s.from), omega arith, b)
            inside j a d (no n) = let w = p.inside j a (omega arith) in rw (old j (omega arith)) (w.0, omega (arith, w.1), w.2)

            rising : (i j : ℕ) → k < i → i < j → j ≤ suc c → Dec (j ≡ suc c) → block_round v i < block_round v j
            rising i j a d h (yes e) = rw (e, new, old i (omega arith)) (omega (arith, (p.inside i a (omega arith)).1))
            rising i j a d h (no n) = rw (old i (omega arith), old j (omega arith)) (p.rising i j a d (omega arith))

    -- the anchor of round top makes the last of them
    pub commit-last : get_or l top 0 < 16 → (k < count) × (block_round table count ≡ top)
    commit-last led =
        commit-each (λ r c u. top ≤ r → (k < c) × (block_round u c ≡ top)) (λ h. absurd (omega arith))
        (λ r c u s i b p h.
        let e : suc r ≡ top = omega arith in
        (omega (arith, s.more), block-round-new (suc c) (get_or left (suc r) 0) (suc r) u (omega (arith, s.few, s.from, s.only.size)) ∙ e))
        (λ r c u s i b p h.
        let e : suc r ≡ top = omega arith in
        absurd (omega (arith, (rw e at b), taken-other t m top l above top (λ _. omega arith))))
        (omega arith)
