-- Laws of how the certificates of a block lie in its table.
use Rattle.std.proofs.Common.{◌≡◌, refl, sym, ap, ◌∙◌, Bool, true, false, ◌&&◌, List, [], ◌∷◌, ℕ, zero, suc, ◌+◌, ◌-◌, ◌<◌, ◌≤◌, arith, eqb, eq-eqb, eqb-true, Some}
use Rattle.std.proofs.lemmas.Option.{none-some}
use Rattle.base.proofs.Words.{false≢true, ℕ_discrete, dec_lt}
use Rattle.base.proofs.Bools.{both}
use Rattle.base.proofs.TestLaws.{any_true, true_any}
use Rattle.agreement.specs.Rules.{Block, Chain}
use Rattle.terms.specs.Proposals.{Content}
use Rattle.store.specs.Table.{held_at, mark_at, block_round, content_at}
use Rattle.store.proofs.TableLaws.{held-member}
use Rattle.committee.specs.Chain.{holds_at, block_at, chain_of}
use Rattle.committee.proofs.ChainLaws.{block-round, block_inside, holds-present, holds-other, holds-absent}
use Rattle.terms.specs.declared.sheet.Settings.{Settings}
use Rattle.chain_committees.specs.ChainInTable.{ChainInTable}
use Rattle.chain_committees.specs.BlockChanges.{blocks_fit}
use Rattle.chain_committees.proofs.ChainLaws.{fits-at}
use Rattle.extents.specs.Together.{InRound, in_round, Together, Below, Above}

-- ---- a round

module _ (t : List ℕ) (k r : ℕ) where
  pub in_yes : in_round t k r ≡ true → InRound t k r
  unfolding in_round
  in_yes e =
      let x = any_true (λ a. held_at t a r && eqb (mark_at t a r) k) 16 e in
      let y = both (held_at t x.0 r) (eqb (mark_at t x.0 r) k) x.2 in
      record { author = x.0; held = y.0; mark = eqb-true (mark_at t x.0 r) k y.1 }

  in-true : InRound t k r → in_round t k r ≡ true
  unfolding in_round
  in-true x = true_any (λ a. held_at t a r && eqb (mark_at t a r) k) 16 x.author (held-member t x.author r x.held) (rw (x.held, eq-eqb (mark_at t x.author r) k x.mark) refl)

  pub in_no : in_round t k r ≡ false → InRound t k r → ⊥
  in_no e x = false≢true (sym e ∙ in-true x)

-- ---- rounds of a block

-- a block's round is below the ceiling
round-below : (n : ℕ) (t : List ℕ) (blocks k : ℕ) → blocks_fit n t blocks ≡ true → 0 < k → k ≤ blocks → block_round t k < n
round-below n t blocks k fit h l =
    let e : k - 1 + 1 ≡ k = omega arith in
    let x = fits-at n t blocks fit (k - 1) (omega arith) in
    rw e at x.below

pub top_fits : (S : Settings) (t : List ℕ) (blocks k : ℕ) → ChainInTable S t blocks → 0 < k → k ≤ blocks → block_round t k ≤ S.ceiling
top_fits S t blocks k c h l = let x = round-below S.ceiling t blocks k c.rounds h l in omega arith

-- from a round that has some up to one not above the block's, each has some
climb : (n : ℕ) (t : List ℕ) (blocks k : ℕ) → Together n t blocks → 0 < k → k ≤ blocks → (d r : ℕ) → 0 < r → r + d ≤ n → r + d ≤ block_round t k → InRound t k r → InRound t k (r + d)
climb n t blocks k w h l zero r z a m x = let e : r + 0 ≡ r = omega arith in rw e x
climb n t blocks k w h l (suc d) r z a m x =
    let e : suc (r + d) ≡ r + suc d = omega arith in
    rw e at (w.linked k (r + d) h l (omega arith) (omega arith) (omega arith) (climb n t blocks k w h l d r z (omega arith) (omega arith) x))

-- so none lies below one that has none, and none above the block's
pub below_bare : (n : ℕ) (t : List ℕ) (blocks k r : ℕ) → Together n t blocks → 0 < k → k ≤ blocks → r ≤ n → r ≤ block_round t k → {j : ℕ} → j ≡ k → (InRound t j r → ⊥) → Below n t k r
below_bare n t blocks k r w h l a m {j} i f q z u x = go (dec_lt r q)
  where
    go : Dec (r < q) → r < q
    go (yes e) = e
    go (no d) =
        let e : q + (r - q) ≡ r = omega arith in
        absurd ((rw i at f) (rw e at (climb n t blocks k w h l (r - q) q z (omega arith) (omega arith) x)))

pub below_first : (n : ℕ) (t : List ℕ) (k r : ℕ) → (0 < r → ⊥) → Below n t k r
below_first n t k r f q z u x = let e : r ≡ 0 = omega arith in omega arith

pub above_own : (n : ℕ) (t : List ℕ) (blocks k : ℕ) → Together n t blocks → 0 < k → k ≤ blocks → {j r : ℕ} → j ≡ k → r ≡ block_round t j → Above n t k r
above_own n t blocks k w h l i e q z u x = rw (e, i) (w.within k q h l z u x)

-- ---- where the chain stays

pub same_block : (n : ℕ) (t u : List ℕ) (blocks : ℕ) → chain_of n u blocks ≡ chain_of n t blocks → (k : ℕ) → 0 < k → k ≤ blocks → block_at n u k ≡ block_at n t k
unfolding chain_of
same_block n t u zero e k h l = absurd (omega arith)
same_block n t u (suc m) e k h l = go (ℕ_discrete k (suc m)) (λ z. same_block n t u m (ap tail-of e) k h z)
  where
    head-of : Block Content → Chain Content → Block Content
    head-of d [] = d
    head-of d (b ∷ c) = b

    tail-of : Chain Content → Chain Content
    tail-of [] = []
    tail-of (b ∷ c) = c

    go : Dec (k ≡ suc m) → (k ≤ m → block_at n u k ≡ block_at n t k) → block_at n u k ≡ block_at n t k
    go (yes i) f = rw i (ap (head-of (block_at n t k)) e)
    go (no d) f = f (omega arith)

in-same : (n : ℕ) (t u : List ℕ) (k r : ℕ) → block_at n u k ≡ block_at n t k → 0 < r → r ≤ n → InRound u k r → InRound t k r
in-same n t u k r e h l x = go (held_at t x.author r) refl (ℕ_discrete (mark_at t x.author r) k)
  where
    some : holds_at t k x.author r ≡ Some (content_at u x.author r)
    some = sym (block_inside n t k x.author r h l) ∙ ap (λ (b : Block Content). b.holds x.author r) (sym e) ∙ block_inside n u k x.author r h l ∙ holds-present u k x.author r x.held x.mark

    go : (b : Bool) → held_at t x.author r ≡ b → Dec (mark_at t x.author r ≡ k) → InRound t k r
    go true z (yes m) = record { author = x.author; held = z; mark = m }
    go true z (no m) = absurd (none-some (content_at u x.author r) (sym (holds-other t k x.author r m) ∙ some))
    go false z d = absurd (none-some (content_at u x.author r) (sym (holds-absent t k x.author r z) ∙ some))

pub together_same : (n : ℕ) (t u : List ℕ) (blocks : ℕ) → chain_of n u blocks ≡ chain_of n t blocks → Together n t blocks → Together n u blocks
together_same n t u blocks e w =
    record {
      within = λ k r h l z m x. rw (round k h l) (w.within k r h l z m (in-same n t u k r (same_block n t u blocks e k h l) z m x));
      linked = λ k r h l z b m x. in-same n u t k (suc r) (sym (same_block n t u blocks e k h l)) (omega arith) (omega arith) (w.linked k r h l z b (rw (round k h l) at m) (in-same n t u k r (same_block n t u blocks e k h l) z (omega arith) x));
    }
  where
    round : (k : ℕ) → 0 < k → k ≤ blocks → block_round u k ≡ block_round t k
    round k h l = sym (block-round n u k) ∙ ap (λ (b : Block Content). b.round) (same_block n t u blocks e k h l) ∙ block-round n t k
