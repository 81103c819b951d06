-- Laws of how the certificates of a block lie: a walk down puts some into each round that it passes, and those of older blocks stay where they are.
use Rattle.std.proofs.Common.{◌≡◌, refl, sym, ◌∙◌, Bool, true, List, ◌≢◌, ◌⊎◌, inl, inr, ℕ, suc, ◌+◌, ◌-◌, ◌<◌, ◌≤◌, arith, eqb, eq-eqb, ne_eqb, lt-ltb, get_or}
use Rattle.base.proofs.Words.{ℕ_discrete, dec_lt, and-false}
use Rattle.base.specs.Sets.{contains, only}
use Rattle.base.proofs.SetLaws.{in_member}
use Rattle.store.specs.Table.{Row, held_at, mark_at, block_round}
use Rattle.store.specs.Writes.{set_block}
use Rattle.store.proofs.TableLaws.{held-member}
use Rattle.store.proofs.MarkLaws.{only-block, mark-block, held-marked}
use Rattle.blocks.specs.History.{in_history}
use Rattle.blocks.specs.Blocks.{mark_row, block_step}
use Rattle.blocks.proofs.MarkLaws.{new_mark, only_row, row-mark, block-mark}
use Rattle.extents.specs.Together.{InRound, Together}
use Rattle.owned.specs.Marks.{Unmarked, Filled, Put}
use Rattle.state.specs.declared.State.{State}
use Rattle.commit.specs.Commit.{commit_refusal}
use Rattle.commit.proofs.CheckLaws.{accepted}
use Rattle.preview.proofs.AnchoredLaws.{anchored}
use Rattle.owned.specs.Making.{MarksTo, StepMade, BlocksMade}
use Rattle.owned.proofs.MakingLaws.{step-held, step-count, step-none, step-new, step-old}

-- ---- one row down

module _ (b s r : ℕ) (t : List ℕ) (row : Row t r) where
  -- where one of a held set has no mark, the row gets one of the block
  row-new : ((a : ℕ) → contains s a ≡ true → held_at t a r ≡ true) → Unmarked t s r → InRound (mark_row b s r t) b r
  row-new f x = record {
    author = x.author;
    held = held-marked (only_row r b s r t (omega arith)) x.author r ∙ f x.author x.inside;
    mark = row-mark b s r t row x.author r (in_member s x.author x.inside) ∙ rw (eq-eqb r r refl, x.inside, eq-eqb (mark_at t x.author r) 0 x.none) refl;
  }

  -- other rows keep theirs
  row-old : (q : ℕ) → q ≢ r → InRound t b q → InRound (mark_row b s r t) b q
  row-old q n x = record {
    author = x.author;
    held = held-marked (only_row r b s r t (omega arith)) x.author q ∙ x.held;
    mark = row-mark b s r t row x.author q (held-member t x.author q x.held) ∙ rw (ne_eqb q r n, and-false (eqb (mark_at t x.author q) 0)) x.mark;
  }

  pub filled-down : ((a : ℕ) → contains s a ≡ true → held_at t a r ≡ true) → Unmarked t s r → {top : ℕ} → Filled t b r top → Filled (mark_row b s r t) b (r - 1) top
  filled-down f x w q h l = go (ℕ_discrete q r)
    where
      go : Dec (q ≡ r) → InRound (mark_row b s r t) b q
      go (yes e) = rw e (row-new f x)
      go (no n) = row-old q n (w q (omega arith) l)

-- ---- a block

-- the word of its round is no mark
pub filled-block : (t : List ℕ) (k r : ℕ) {b low top : ℕ} → Filled t b low top → Filled (set_block t k r) b low top
filled-block t k r w q h l = let x = w q h l in record {
  author = x.author;
  held = held-marked (only-block k t k r (omega arith)) x.author q ∙ x.held;
  mark = mark-block t k r x.author q (held-member t x.author q x.held) ∙ x.mark;
}

-- what has a mark keeps it
mark-same : (b m : ℕ) (h : Bool) → m ≢ 0 → new_mark b h m ≡ m
mark-same b m h n = rw (ne_eqb m 0 n) refl

step-marked : (l : List ℕ) (r k : ℕ) (t : List ℕ) → get_or l r 0 < 16 → Row t r → (i q : ℕ) → i < 16 → 0 < q → mark_at t i q ≢ 0 → mark_at (block_step l r k t) i q ≡ mark_at t i q
unfolding block_step
step-marked l r k t a row i q h z n =
    rw (lt-ltb (get_or l r 0) 16 a)
    (block-mark (k + 1) (get_or l r 0) r t row i q h z ∙ mark-same (k + 1) (mark_at t i q) (in_history t r (only (get_or l r 0)) i q) n)

-- block k + 1 is made, of round r, above low
record Added (k low r : ℕ) (t u : List ℕ) : Type 0 where
  held : (i q : ℕ) → held_at u i q ≡ held_at t i q
  put : Put t (k + 1) low r u
  filled : Filled u (k + 1) low r
  kept : (i q : ℕ) → i < 16 → 0 < q → mark_at t i q ≢ 0 → mark_at u i q ≡ mark_at t i q
  new : block_round u (k + 1) ≡ r
  old : (b : ℕ) → b ≤ k → block_round u b ≡ block_round t b

module _ {n k low r : ℕ} {t u : List ℕ} (x : Added k low r t u) (to : r ≤ n) (m : MarksTo n k t) where
  -- what the new block has lies above low, up to its round
  in-new : (q : ℕ) → 0 < q → q ≤ n → InRound u (k + 1) q → (low < q) × (q ≤ r)
  in-new q z l y = go (x.put y.author q (held-member u y.author q y.held) z)
    where
      go : (mark_at u y.author q ≡ mark_at t y.author q) ⊎ ((mark_at u y.author q ≡ k + 1) × (low < q) × (q ≤ r)) → (low < q) × (q ≤ r)
      go (inl e) = absurd (omega (arith, e, y.mark, m.marks y.author q z l (sym (x.held y.author q) ∙ y.held)))
      go (inr e) = (e.1, e.2)

  -- what an older one has it had before
  in-old : (b q : ℕ) → b ≤ k → 0 < q → InRound u b q → InRound t b q
  in-old b q h z y = go (x.put y.author q (held-member u y.author q y.held) z)
    where
      go : (mark_at u y.author q ≡ mark_at t y.author q) ⊎ ((mark_at u y.author q ≡ k + 1) × (low < q) × (q ≤ r)) → InRound t b q
      go (inl e) = record { author = y.author; held = sym (x.held y.author q) ∙ y.held; mark = sym e ∙ y.mark }
      go (inr e) = absurd (omega (arith, h, e.0, y.mark))

  -- and keeps
  in-kept : (b q : ℕ) → 0 < b → 0 < q → InRound t b q → InRound u b q
  in-kept b q p z y = record {
    author = y.author;
    held = x.held y.author q ∙ y.held;
    mark = x.kept y.author q (held-member t y.author q y.held) z (λ e. omega (arith, e, p, y.mark)) ∙ y.mark;
  }

  -- so blocks hang together as before
  added-together : Together n t k → Together n u (k + 1)
  added-together w = record { within = λ b q p h z l y. within b q p h z l y (ℕ_discrete b (k + 1)); linked = λ b q p h z g l y. linked b q p h z g l y (ℕ_discrete b (k + 1)) }
    where
      within : (b q : ℕ) → 0 < b → b ≤ k + 1 → 0 < q → q ≤ n → InRound u b q → Dec (b ≡ k + 1) → q ≤ block_round u b
      within b q p h z l y (yes e) = rw (e, x.new) (in-new q z l (rw e at y)).1
      within b q p h z l y (no d) = rw (x.old b (omega arith)) (w.within b q p (omega arith) z l (in-old b q (omega arith) z y))

      linked : (b q : ℕ) → 0 < b → b ≤ k + 1 → 0 < q → q < n → q < block_round u b → InRound u b q → Dec (b ≡ k + 1) → InRound u b (suc q)
      linked b q p h z g l y (yes e) =
          let i : q < r = rw (e, x.new) at l in
          let j = in-new q z (omega arith) (rw e at y) in
          rw e (x.filled (suc q) (omega (arith, j.0)) (omega arith))
      linked b q p h z g l y (no d) = in-kept b (suc q) p (omega arith) (w.linked b q p (omega arith) z g (rw (x.old b (omega arith)) at l) (in-old b q (omega arith) z y))

-- ---- the blocks of a commit, round by round

pub together-next : (l lows₀ lows : List ℕ) (r c c' : ℕ) (t u : List ℕ) → Row t r → Row t (c + 1) → StepMade l lows₀ r c t c' u lows
    → {n : ℕ} → r ≤ n → MarksTo n c t → Together n t c → Together n u c'
together-next l lows₀ lows r c c' t u row room s {n} to m w = go (dec_lt (get_or l r 0) 16)
  where
    go : Dec (get_or l r 0 < 16) → Together n u c'
    go (no d) = let z = step-none l r c t (omega arith) in
        let e : c' ≡ c = s.count ∙ z.0 in
        let f : u ≡ t = s.table ∙ z.1 in
        rw (e, f) w
    go (yes a) = rw grown (added-together added to m w)
      where
        grown : c' ≡ c + 1
        grown = s.count ∙ step-count l r c a

        added : Added c (get_or lows r 0) r t u
        added = record {
          held = step-held l r c t s.table;
          put = rw grown at s.marks a;
          filled = rw grown at s.filled a;
          kept = λ i q h z d. rw s.table (step-marked l r c t a row i q h z d);
          new = rw s.table (step-new l r c t a room);
          old = λ b h. rw s.table (step-old l r c t a b h);
        }

-- a commit that is accepted leaves them together
pub commit-together : (s : State) (t : List ℕ) → commit_refusal s t ≡ 0 → {l l' lows u : List ℕ} {m c : ℕ} → BlocksMade l m (s.round - 1) s.blocks t c u l' lows
    → Together s.settings.ceiling t s.blocks → Together s.settings.ceiling u c
commit-together s t ok x w = let to = (accepted s t ok).formed.numbers.round_to in x.together s.settings.ceiling (omega (arith, to)) (record { marks = (anchored s t ok).marked }) w
