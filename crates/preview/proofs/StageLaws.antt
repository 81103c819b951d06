-- A commit, anchor by anchor: after each its table tells what a preview tells without it.
use Rattle.std.proofs.Common.{◌≡◌, refl, sym, ap, ap₂, ◌∙◌, Bool, true, false, cond, not, ◌&&◌, ◌||◌, List, [], ◌++◌, ℕ, suc, ◌+◌, ◌-◌, ◌<◌, ◌≤◌, arith, add-one, eqb, get_or}
use Rattle.base.proofs.Words.{and-true, and_comm, eqb-suc-zero}
use Rattle.base.specs.Sets.{only}
use Rattle.agreement.specs.Rules.{Block, Chain}
use Rattle.agreement.specs.Dag.{is_held}
use Rattle.terms.specs.Proposals.{Content}
use Rattle.store.specs.Table.{Row, mark_at, held_at}
use Rattle.store.proofs.TableLaws.{held-member}
use Rattle.store.proofs.MarkLaws.{held-marked}
use Rattle.terms.specs.declared.sheet.Settings.{Settings}
use Rattle.committee.specs.Chain.{block_at, chain_of}
use Rattle.committee.specs.Changes.{rows}
use Rattle.committee.specs.Committees.{leader_by, committee_of, start_of, ordered}
use Rattle.committee.proofs.ChainLaws.{block-round, chain_more}
use Rattle.blocks.specs.History.{in_history}
use Rattle.blocks.specs.Anchors.{taken_leaders}
use Rattle.blocks.proofs.HistoryLaws.{history-above, history-marked}
use Rattle.blocks.specs.Blocks.{add_block, count_after, commit_table, commit_count}
use Rattle.blocks.proofs.MarkLaws.{new_mark, block-mark, block-round-new}
use Rattle.blocks.proofs.CommitLaws.{Stage, commit-each}
use Rattle.prospects.specs.Prospects.{is_new, block_words, reach_after, words_after}
use Rattle.preview.specs.Entries.{entries_of, block_entries, entries_after, words_of}
use Rattle.prospects.proofs.RowLaws.{rows_same, rows-to}
use Rattle.preview.proofs.EntryLaws.{words_append, words-empty, rows_words}
use Rattle.preview.proofs.BlockLaws.{committee-more, block-placed, chain-old, block_new, entries-old}
use Rattle.prospects.proofs.ProspectLaws.{reach_none, count_none, words-none, reach_led, count-led, words-led, reach_passed, count-passed, words-passed}
use Rattle.terms.specs.declared.sheet.Weight.{Weight}

-- what is free after a block: what was free and is not in its history
free-then : (c : ℕ) (h : Bool) (x : ℕ) → eqb (new_mark (suc c) h x) 0 ≡ (eqb x 0 && not h)
free-then c h x = go (eqb x 0) refl h
  where
    go : (b : Bool) → eqb x 0 ≡ b → (h : Bool) → eqb (cond (b && h) (suc c) x) 0 ≡ (b && not h)
    go true e true = eqb-suc-zero c
    go true e false = e
    go false e h = e

-- and no mark is above its number
mark-low : (c : ℕ) (h : Bool) (x : ℕ) → x ≤ c → new_mark (suc c) h x ≤ suc c
mark-low c h x l = go (eqb x 0 && h)
  where
    go : (b : Bool) → cond b (suc c) x ≤ suc c
    go true = omega arith
    go false = omega arith

-- a block's certificates in order, where the leader of its round is a
ordered-by : (S : Settings) (b : Block Content) (e : Chain Content) (r a : ℕ) → b.round ≡ r → leader_by (committee_of S e r) r ≡ a → ordered S b e ≡ rows b a S.ceiling
unfolding ordered start_of
ordered-by S b e r a i j = rw (i, j) refl

-- one block's entries more
entries-more : (S : Settings) (u : List ℕ) (k c : ℕ) → k ≤ c → entries_after S u k (suc c - k) ≡ entries_after S u k (c - k) ++ block_entries S u c
unfolding entries_after
entries-more S u k c h =
    let e : suc c - k ≡ suc (c - k) = omega arith in
    let i : k + (c - k) ≡ c = omega arith in
    rw (e, i) refl

entries_none : (S : Settings) (u : List ℕ) (k : ℕ) → entries_after S u k (k - k) ≡ []
unfolding entries_after
entries_none S u k = let e : k - k ≡ 0 = omega arith in rw e refl

module _ (S : Settings) (t l : List ℕ) (m top k : ℕ) where
  abbrev n : ℕ
  n = S.ceiling

  abbrev left : List ℕ
  left = taken_leaders t m top l

  -- what a commit of the anchor of round top finds, where k blocks were made and the last of them was of round m
  pub record Anchored : Type 0 where
    pub few : k ≤ m
    pub above : m < top
    pub inside : top ≤ n
    pub known : top ≤ S.lookback + suc m
    pub table : Row t n
    pub marked : (i q : ℕ) → 0 < q → q ≤ n → held_at t i q ≡ true → mark_at t i q ≤ k
    pub held : (r : ℕ) → m < r → r ≤ top → get_or left r 0 < 16 → held_at t (get_or left r 0) r ≡ true
    pub led : (r : ℕ) → m < r → r ≤ top → get_or left r 0 < 16 → leader_by (committee_of S (chain_of n t k) r) r ≡ get_or left r 0

  -- after the rounds up to r there are c blocks on u, as the preview tells
  pub record Told (r c : ℕ) (u : List ℕ) : Type 0 where
    pub count : count_after left m (r - m) k ≡ c
    pub free : (i q : ℕ) → i < 16 → 0 < q → eqb (mark_at u i q) 0 ≡ (eqb (mark_at t i q) 0 && not (reach_after t left m (r - m) i q))
    pub low : (i q : ℕ) → 0 < q → q ≤ n → held_at t i q ≡ true → mark_at u i q ≤ c
    pub before : chain_of n u k ≡ chain_of n t k
    pub committees : (q : ℕ) → q ≤ top → committee_of S (chain_of n u c) q ≡ committee_of S (chain_of n t k) q
    pub words : words_of (entries_after S u k (c - k)) ≡ words_after t left m (r - m) k

  module _ (W : Anchored) where
    start : Told m k t
    start =
        record {
          count = count_none t left m k;
          free = λ i q _ _. rw (reach_none t left m i q) (sym (and-true (eqb (mark_at t i q) 0)));
          low = W.marked;
          before = refl;
          committees = λ q _. refl;
          words = ap words_of (entries_none S t k) ∙ words-empty ∙ sym (words-none t left m k);
        }

    -- a round without an anchor
    passed : (r c : ℕ) (u : List ℕ) → Stage m k t r c u → r < top → 16 ≤ get_or left (suc r) 0 → Told r c u → Told (suc r) c u
    passed r c u s h a d =
        let f = s.from in
        record {
          count = count-passed t left m r f a k ∙ d.count;
          free = λ i q x y. rw (reach_passed t left m r f a i q) (d.free i q x y);
          low = d.low;
          before = d.before;
          committees = d.committees;
          words = d.words ∙ sym (words-passed t left m r f a k);
        }

    -- an anchor's block
    module _ (r c : ℕ) (u : List ℕ) (s : Stage m k t r c u) (h : r < top) (low : get_or left (suc r) 0 < 16) (d : Told r c u) where
      abbrev a : ℕ
      a = get_or left (suc r) 0

      abbrev v : List ℕ
      v = add_block (suc c) a (suc r) u

      abbrev b : Block Content
      b = block_at n v (suc c)

      abbrev f : ℕ → ℕ → Bool
      f = reach_after t left m (r - m)

      row : Row u (suc r)
      row = omega (arith, s.only.size, W.inside, W.table)

      room : Row u (suc c)
      room = omega (arith, s.only.size, s.few, s.from, W.few, W.inside, W.table)

      same : (i q : ℕ) → in_history u (suc r) (only a) i q ≡ in_history t (suc r) (only a) i q
      same i q = history-marked s.only (suc r) (only a) i q

      its-round : b.round ≡ suc r
      its-round = block-round n v (suc c) ∙ block-round-new (suc c) a (suc r) u room

      free-v : (i q : ℕ) → i < 16 → 0 < q → eqb (mark_at v i q) 0 ≡ (eqb (mark_at t i q) 0 && not (reach_after t left m (suc r - m) i q))
      free-v i q x y =
          rw (block-mark (suc c) a (suc r) u row i q x y, free-then c (in_history u (suc r) (only a) i q) (mark_at u i q), same i q, d.free i q x y, reach_led t left m r s.from low i q)
          (go (eqb (mark_at t i q) 0) (f i q) (in_history t (suc r) (only a) i q))
        where
          go : (x y z : Bool) → ((x && not y) && not z) ≡ (x && not (y || z))
          go true true z = refl
          go true false z = refl
          go false y z = refl

      low-v : (i q : ℕ) → 0 < q → q ≤ n → held_at t i q ≡ true → mark_at v i q ≤ suc c
      low-v i q x y e =
          rw (block-mark (suc c) a (suc r) u row i q (held-member t i q e) x) (mark-low c (in_history u (suc r) (only a) i q) (mark_at u i q) (d.low i q x y e))

      committees-v : (q : ℕ) → q ≤ top → committee_of S (chain_of n v (suc c)) q ≡ committee_of S (chain_of n t k) q
      committees-v q x =
          rw (chain_more n v c, chain-old n c a (suc r) u row c (omega arith))
          (committee-more S b (chain_of n u c) q (omega (arith, its-round, W.known, s.from)) ∙ d.committees q x)

      holds-v : (i q : ℕ) → i < 16 → 0 < q → q ≤ n → is_held (b.holds i q) ≡ is_new t f a (suc r) i q
      holds-v i q x y z =
          block_new n c a (suc r) u row (λ i q p e g. d.low i q p e (sym (held-marked s.only i q) ∙ g)) low
          (held-marked s.only a (suc r) ∙ W.held (suc r) (omega (arith, s.from)) h low) i q x y z
          ∙ ap₂ ◌&&◌ (d.free i q x y) (same i q)
          ∙ and_comm (eqb (mark_at t i q) 0 && not (f i q)) (in_history t (suc r) (only a) i q)
          ∙ ap (λ (z : Bool). in_history t (suc r) (only a) i q && z) (and_comm (eqb (mark_at t i q) 0) (not (f i q)))

      order : ordered S b (chain_of n v c) ≡ rows b a n
      order =
          ordered-by S b (chain_of n v c) (suc r) a its-round
          (ap (λ (w : List Weight). leader_by w (suc r)) (ap (λ (e : Chain Content). committee_of S e (suc r)) (chain-old n c a (suc r) u row c (omega arith)) ∙ d.committees (suc r) h)
          ∙ W.led (suc r) (omega (arith, s.from)) h low)

      block_words_lem : words_of (block_entries S v c) ≡ block_words t f (c + 1) a (suc r)
      block_words_lem =
          ap (λ (p : List Content). words_of (entries_of (suc c) p)) order
          ∙ rows_words (suc c) b (block-placed n v (suc c)) a n
          ∙ rows_same (λ i q. is_held (b.holds i q)) (is_new t f a (suc r)) (suc c) a 0 n (λ i q x y z. holds-v i q x y (omega arith))
          ∙ rows-to (is_new t f a (suc r)) (suc c) a n (suc r) (omega (arith, W.inside)) (λ i q _ x _. rw (history-above t (suc r) (only a) i q x) refl)
          ∙ ap (λ (z : ℕ). block_words t f z a (suc r)) (sym (add-one c))

      words-v : words_of (entries_after S v k (suc c - k)) ≡ words_after t left m (suc r - m) k
      words-v =
          ap words_of (entries-more S v k c s.more)
          ∙ words_append (entries_after S v k (c - k)) (block_entries S v c)
          ∙ ap₂ ◌++◌ (ap words_of (entries-old S c a (suc r) u row k (c - k) (omega (arith, s.more))) ∙ d.words)
          (block_words_lem ∙ ap (λ (z : ℕ). block_words t f (z + 1) a (suc r)) (sym d.count))
          ∙ sym (words-led t left m r s.from low k)

      made : Told (suc r) (suc c) v
      made =
          record {
            count = count-led t left m r s.from low k ∙ ap (λ (z : ℕ). z + 1) d.count ∙ add-one c;
            free = free-v;
            low = low-v;
            before = chain-old n c a (suc r) u row k s.more ∙ d.before;
            committees = committees-v;
            words = words-v;
          }

    -- and so after all of them
    pub commit-told : Told top (commit_count m top k l t) (commit_table m top k l t)
    commit-told = commit-each m top k l t W.few W.above Told start (λ r c u s h low d. made r c u s h low d) passed
