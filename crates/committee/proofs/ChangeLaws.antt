-- Changes: what one does to each weight; and as folds, transaction by transaction, place by place, row by row.
use Rattle.std.proofs.Common.{◌≡◌, refl, sym, ap, ◌∙◌, Bool, true, false, cond, List, [], ◌∷◌, ◌++◌, ℕ, zero, suc, ◌+◌, ◌%◌, ◌<◌, arith, set, length, length-set, eqb, ltb, eq-eqb, ne_eqb, lt-ltb, le-ltb}
use Rattle.base.proofs.Words.{ℕ_discrete, dec_lt}
use Rattle.base.specs.Folds.{fold_to, tab}
use Rattle.base.proofs.Ranges.{fold_none, fold_next, tab_none, tab_next}
use Rattle.agreement.specs.Rules.{Block}
use Rattle.terms.specs.declared.Transaction.{Transaction}
use Rattle.terms.specs.declared.Transaction.TheVariants.{Bond, Unbond, Entry}
use Rattle.terms.specs.Proposals.{Content}
use Rattle.terms.specs.declared.sheet.Weight.{Weight}
use Rattle.terms.proofs.SheetLaws.{weight_same, weight_other}
use Rattle.terms.specs.Ranges.{weight, weight_in}
use Rattle.committee.specs.Changes.{change, changes, changes_of, at_most_one, row, rows}

-- ---- one transaction

-- one weight set, if the number is a member's
length-one : (b : Bool) (w : List Weight) (m : ℕ) (v : Weight) → length (cond b (set w m v) w) ≡ length w
length-one true w m v = length-set w m v
length-one false w m v = refl

pub length-change : (x : Transaction) (w : List Weight) → length (change x w) ≡ length w
length-change (Bond i a) w = length-one (ltb i.0 16) w i.0 (weight (weight_in w i.0 + a))
length-change (Unbond i) w = length-one (ltb i.0 16) w i.0 (weight 0)
length-change (Entry n) w = refl

length-changes : (l : List Transaction) (w : List Weight) → length (changes l w) ≡ length w
unfolding changes
length-changes [] w = refl
length-changes (x ∷ l) w = length-changes l (change x w) ∙ length-change x w

pub length-changes-of : (l : List Content) (w : List Weight) → length (changes_of l w) ≡ length w
unfolding changes_of
length-changes-of [] w = refl
length-changes-of (p ∷ l) w = length-changes-of l (changes p.transactions w) ∙ length-changes p.transactions w

module _ (i v : ℕ) (w : List Weight) (m : ℕ) (l : length w ≡ 16) (h : m < 16) where
  -- the weight of member m
  at_one : weight_in (cond (ltb i 16) (set w i (weight v)) w) m ≡ cond (eqb i m) v (weight_in w m)
  at_one = go (ℕ_discrete i m) (dec_lt i 16)
    where
      go : Dec (i ≡ m) → Dec (i < 16) → weight_in (cond (ltb i 16) (set w i (weight v)) w) m ≡ cond (eqb i m) v (weight_in w m)
      go (yes e) d = rw (eq-eqb i m e, e, lt-ltb m 16 h) (weight_same w m v (omega arith))
      go (no n) (yes k) = rw (ne_eqb i m n, lt-ltb i 16 k) (weight_other w i m v (λ q. n (sym q)))
      go (no n) (no k) = rw (ne_eqb i m n, le-ltb i 16 (omega arith)) refl

module _ (i : ℕ) where
  pub bond-at : (a : ℕ) (w : List Weight) (m : ℕ) → length w ≡ 16 → m < 16 → weight_in (change (Bond (record { 0 = i }) a) w) m ≡ cond (eqb i m) a 0 + weight_in w m
  bond-at a w m l h = at_one i (weight_in w i + a) w m l h ∙ go (ℕ_discrete i m)
    where
      go : Dec (i ≡ m) → cond (eqb i m) (weight_in w i + a) (weight_in w m) ≡ cond (eqb i m) a 0 + weight_in w m
      go (yes e) = rw (eq-eqb i m e, e) (omega arith)
      go (no n) = rw (ne_eqb i m n) (omega arith)

  pub unbond-at : (w : List Weight) (m : ℕ) → length w ≡ 16 → m < 16 → weight_in (change (Unbond (record { 0 = i })) w) m ≡ cond (eqb i m) 0 (weight_in w m)
  unbond-at w m l h = at_one i 0 w m l h

-- ---- folds

changes-append : (l m : List Transaction) (w : List Weight) → changes (l ++ m) w ≡ changes m (changes l w)
unfolding changes
changes-append [] m w = refl
changes-append (x ∷ l) m w = changes-append l m (change x w)

pub changes-tab : (f : ℕ → Transaction) (n : ℕ) (w : List Weight) → changes (tab f n) w ≡ fold_to (λ k. change (f k)) n w
unfolding changes
changes-tab f zero w = rw (tab_none f, fold_none (λ k. change (f k)) w) refl
changes-tab f (suc n) w = rw (tab_next f n, fold_next (λ k. change (f k)) n w) (changes-append (tab f n) (f n ∷ []) w ∙ ap (change (f n)) (changes-tab f n w))

changes-of-append : (l m : List Content) (w : List Weight) → changes_of (l ++ m) w ≡ changes_of m (changes_of l w)
unfolding changes_of
changes-of-append [] m w = refl
changes-of-append (p ∷ l) m w = changes-of-append l m (changes p.transactions w)

-- no certificate changes nothing
pub changes-none : (w : List Weight) → changes_of [] w ≡ w
unfolding changes_of
changes-none w = refl

-- one certificate alone
pub changes-one : (p : Content) (w : List Weight) → changes_of (p ∷ []) w ≡ changes p.transactions w
unfolding changes_of
changes-one p w = refl

row-changes : (b : Block Content) (a r n : ℕ) (w : List Weight) → changes_of (row b a r n) w ≡ fold_to (λ m. changes_of (at_most_one (b.holds ((a + m) % 16) r))) n w
unfolding row changes_of
row-changes b a r zero w = sym (fold_none (λ m. changes_of (at_most_one (b.holds ((a + m) % 16) r))) w)
row-changes b a r (suc n) w =
    rw (fold_next (λ m. changes_of (at_most_one (b.holds ((a + m) % 16) r))) n w)
    (changes-of-append (row b a r n) (at_most_one (b.holds ((a + n) % 16) r)) w ∙ ap (changes_of (at_most_one (b.holds ((a + n) % 16) r))) (row-changes b a r n w))

-- by round, then numbers from a on
pub rows-changes : (b : Block Content) (a n : ℕ) (w : List Weight) → changes_of (rows b a n) w ≡ fold_to (λ r. fold_to (λ m. changes_of (at_most_one (b.holds ((a + m) % 16) (suc r)))) 16) n w
unfolding rows changes_of
rows-changes b a zero w = sym (fold_none (λ r. fold_to (λ m. changes_of (at_most_one (b.holds ((a + m) % 16) (suc r)))) 16) w)
rows-changes b a (suc n) w =
    rw (fold_next (λ r. fold_to (λ m. changes_of (at_most_one (b.holds ((a + m) % 16) (suc r)))) 16) n w)
    (changes-of-append (rows b a n) (row b a (suc n) 16) w
    ∙ row-changes b a (suc n) 16 (changes_of (rows b a n) w)
    ∙ ap (fold_to (λ m. changes_of (at_most_one (b.holds ((a + m) % 16) (suc n)))) 16) (rows-changes b a n w))
