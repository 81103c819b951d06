-- Laws of the test of blocks that hang together.
use Rattle.std.proofs.Common.{◌≡◌, refl, sym, Bool, true, false, List, ℕ, suc, ◌+◌, ◌<◌, ◌≤◌, arith}
use Rattle.base.proofs.Words.{ℕ_discrete}
use Rattle.terms.specs.declared.sheet.Settings.{Settings}
use Rattle.store.specs.Table.{held_at, mark_at, block_round}
use Rattle.store.proofs.TableLaws.{held-member}
use Rattle.chain_committees.specs.ChainInTable.{ChainInTable}
use Rattle.extents.specs.Together.{InRound, Together}
use Rattle.extents.proofs.TogetherLaws.{top_fits}
use Rattle.owned.specs.Testing.{Tells, InBlocks, PlaceTogether, RowTogether, RowsTogether}

-- a test that says both ways what it finds
pub tells-both : {P : Type 0} {b : Bool} → (b ≡ true → P) → (b ≡ false → P → ⊥) → Tells b P
tells-both {P} {b} f g = (f, λ p. go b refl p)
  where
    go : (c : Bool) → b ≡ c → P → b ≡ true
    go true e p = e
    go false e p = absurd (g e p)

module _ (t : List ℕ) (blocks i r : ℕ) where
  -- ---- a place

  module _ (k l : ℕ) (h : held_at t i r ≡ true) (e : k ≡ mark_at t i r) (z : 0 < k) (m : k ≤ blocks) (f : l ≡ block_round t k) where
    its_block : InBlocks t blocks i r
    its_block = record { held = h; from = rw e at z; to = rw e at m }

    its_round : block_round t (mark_at t i r) ≡ l
    its_round = rw (← e) (sym f)

    -- below its block's round: the block is to go on
    pub place-below : {b : Bool} → r < l → Tells b (InRound t k (r + 1)) → Tells b (PlaceTogether t blocks i r)
    place-below {b} g d = (there, here)
      where
        s : r + 1 ≡ suc r
        s = omega arith

        there : b ≡ true → PlaceTogether t blocks i r
        there y = record { within = λ x. omega (arith, its_round); linked = λ x n. rw (← e, ← s) (d.0 y) }

        here : PlaceTogether t blocks i r → b ≡ true
        here p = d.1 (rw (e, s) (p.linked its_block (omega (arith, its_round))))

-- no blocks hang together
pub together-none : (t : List ℕ) (n : ℕ) → Together n t 0
together-none t n = record { within = λ k r z l. absurd (omega arith); linked = λ k r z l. absurd (omega arith) }

-- ---- rows

module _ (t : List ℕ) (blocks : ℕ) where
  pub row-together : (r : ℕ) → ((i : ℕ) → i < 16 → PlaceTogether t blocks i r) → RowTogether t blocks r
  row-together r f i =
      record {
        within = λ x. (f i (held-member t i r x.held)).within x;
        linked = λ x l. (f i (held-member t i r x.held)).linked x l;
      }

  pub places-on : (r i : ℕ) → PlaceTogether t blocks i r → ((j : ℕ) → j < i → PlaceTogether t blocks j r) → (j : ℕ) → j < i + 1 → PlaceTogether t blocks j r
  places-on r i x f j l = go (ℕ_discrete j i)
    where
      go : Dec (j ≡ i) → PlaceTogether t blocks j r
      go (yes e) = rw e x
      go (no n) = f j (omega arith)

  pub rows-none : RowsTogether t blocks 0
  rows-none r z l = absurd (omega arith)

  pub rows-on : (q : ℕ) → RowTogether t blocks (q + 1) → RowsTogether t blocks q → RowsTogether t blocks (q + 1)
  rows-on q x f r z l = go (ℕ_discrete r (q + 1))
    where
      go : Dec (r ≡ q + 1) → RowTogether t blocks r
      go (yes e) = rw e x
      go (no n) = f r z (omega arith)

  -- ---- all

  pub together-row : {S : Settings} → ChainInTable S t blocks → (r : ℕ) → 0 < r → r ≤ S.ceiling → Together S.ceiling t blocks → RowTogether t blocks r
  together-row {S} c r z l w i =
      record {
        within = λ x. w.within (mark_at t i r) r x.from x.to z l (here x);
        linked = λ x g. let d = top_fits S t blocks (mark_at t i r) c x.from x.to in w.linked (mark_at t i r) r x.from x.to z (omega arith) g (here x);
      }
    where
      here : InBlocks t blocks i r → InRound t (mark_at t i r) r
      here x = record { author = i; held = x.held; mark = refl }

  pub rows-all : (n : ℕ) → RowsTogether t blocks n → Together n t blocks
  rows-all n f =
      record {
        within = λ k r z l y g x. rw x.mark at ((f r y g x.author).within (inside k r z l x));
        linked = λ k r z l y u g x. rw x.mark at ((f r y (omega arith) x.author).linked (inside k r z l x) (rw x.mark g));
      }
    where
      inside : (k r : ℕ) → 0 < k → k ≤ blocks → (x : InRound t k r) → InBlocks t blocks x.author r
      inside k r z l x = record { held = x.held; from = rw x.mark z; to = rw x.mark l }
