-- Laws of what turns leave and answer: over parts of a list and at a place's own turn.
use Rattle.std.proofs.Common.{◌≡◌, refl, sym, ap, ◌∙◌, subst, Bool, true, false, cond, List, [], ◌∷◌, ◌++◌, ℕ, ◌+◌, ◌<◌, arith, eqb, eq-eqb, eqb-true}
use Rattle.base.proofs.Words.{dec_lt}
use Rattle.batch.specs.Turns.{Key, leaves, answer_to}
use Rattle.batch.specs.Order.{times, earlier, EarlierThan, InOrder, OneTurnEach}

-- ---- parts of a list of turns

times-join : (p : ℕ) (l m : List ℕ) → times p (l ++ m) ≡ times p l + times p m
unfolding times
times-join p [] m = omega arith
times-join p (q ∷ l) m = let h = times-join p l m in omega arith

times-here : (p : ℕ) (l : List ℕ) → times p (p ∷ l) ≡ 1 + times p l
unfolding times
times-here p l = rw (eq-eqb p p refl) refl

-- a list with p in it: what stands before it, and after it
pub record Parts (p : ℕ) (l : List ℕ) : Type 0 where
  pub former : List ℕ
  pub latter : List ℕ
  pub whole : l ≡ former ++ (p ∷ latter)

pub parted : (p : ℕ) (l : List ℕ) → 0 < times p l → Parts p l
unfolding times
parted p [] h = absurd (omega arith)
parted p (q ∷ l) h = go (eqb p q) refl h (λ k. parted p l k)
  where
    go : (b : Bool) → eqb p q ≡ b → 0 < cond b 1 0 + times p l → (0 < times p l → Parts p l) → Parts p (q ∷ l)
    go true e k rec = record { former = []; latter = l; whole = ap (λ (i : ℕ). i ∷ l) (sym (eqb-true p q e)) }
    go false e k rec = let x = rec (omega arith) in record { former = q ∷ x.former; latter = x.latter; whole = ap (λ (m : List ℕ). q ∷ m) x.whole }

module _ (keys : ℕ → Key) where
  order-latter : (l m : List ℕ) → InOrder keys (l ++ m) → InOrder keys m
  order-latter [] m h = h
  order-latter (p ∷ l) m h = order-latter l m h.1

  earlier-at : (q : ℕ) (l : List ℕ) (p : ℕ) (m : List ℕ) → EarlierThan keys q (l ++ (p ∷ m)) → earlier keys q p ≡ true
  earlier-at q [] p m h = h.0
  earlier-at q (i ∷ l) p m h = earlier-at q l p m h.1

-- ---- what turns leave

module _ {A : Type 0} (next : A → ℕ → A) where
  pub leaves-join : (l m : List ℕ) (x : A) → leaves next (l ++ m) x ≡ leaves next m (leaves next l x)
  unfolding leaves
  leaves-join [] m x = refl
  leaves-join (p ∷ l) m x = leaves-join l m (next x p)

  pub leaves-one : (p : ℕ) (l : List ℕ) (x : A) → leaves next (p ∷ l) x ≡ leaves next l (next x p)
  unfolding leaves
  leaves-one p l x = refl

  -- what each turn keeps, all of them leave
  pub turns_keep : (P : A → Type 0) (l : List ℕ) (x : A)
      → ((m : List ℕ) (p : ℕ) (rest : List ℕ) → l ≡ m ++ (p ∷ rest) → P (leaves next m x) → P (next (leaves next m x) p)) → P x → P (leaves next l x)
  unfolding leaves
  turns_keep P [] x f h = h
  turns_keep P (p ∷ l) x f h = turns_keep P l (next x p) (λ m q rest e. f (p ∷ m) q rest (ap (λ (z : List ℕ). p ∷ z) e)) (f [] p l refl h)

  module _ (number : A → ℕ → ℕ) where
    answer-latter : (q : ℕ) (l m : List ℕ) (x : A) → times q l ≡ 0 → answer_to next number (l ++ m) x q ≡ answer_to next number m (leaves next l x) q
    unfolding leaves answer_to times
    answer-latter q [] m x h = refl
    answer-latter q (p ∷ l) m x h = go (eqb q p) h (λ k. answer-latter q l m (next x p) k)
      where
        go : (b : Bool) → cond b 1 0 + times q l ≡ 0 → (times q l ≡ 0 → answer_to next number (l ++ m) (next x p) q ≡ answer_to next number m (leaves next l (next x p)) q)
            → cond b (number x p) (answer_to next number (l ++ m) (next x p) q) ≡ answer_to next number m (leaves next l (next x p)) q
        go true k rec = absurd (omega arith)
        go false k rec = rec (omega arith)

    -- at its turn, on what those before it left
    pub answer-turn : (q : ℕ) (l m : List ℕ) (x : A) → times q l ≡ 0 → answer_to next number (l ++ (q ∷ m)) x q ≡ number (leaves next l x) q
    unfolding answer_to
    answer-turn q l m x h = answer-latter q l (q ∷ m) x h ∙ rw (eq-eqb q q refl) refl

-- ---- where each place has one turn

module _ {keys : ℕ → Key} {n : ℕ} {all : List ℕ} (o : OneTurnEach keys n all) where
  pub turn-parts : (p : ℕ) → p < n → Parts p all
  turn-parts p h = parted p all (let e = o.once p h in omega arith)

  module _ (l : List ℕ) (p : ℕ) (m : List ℕ) (e : all ≡ l ++ (p ∷ m)) where
    turn-times : times p all ≡ times p l + (1 + times p m)
    turn-times = ap (times p) e ∙ times-join p l (p ∷ m) ∙ ap (λ (k : ℕ). times p l + k) (times-here p m)

    pub turn_low : p < n
    turn_low = go (dec_lt p n)
      where
        go : Dec (p < n) → p < n
        go (yes h) = h
        go (no h) = let k = o.no_other p (omega arith) in let t = turn-times in absurd (omega arith)

    -- its turn has not come before
    pub turn-once : times p l ≡ 0
    turn-once = let k = o.once p turn_low in let t = turn-times in omega arith

    pub answer-once : {A : Type 0} (next : A → ℕ → A) (number : A → ℕ → ℕ) (x : A) → answer_to next number all x p ≡ number (leaves next l x) p
    answer-once next number x = ap (λ (z : List ℕ). answer_to next number z x p) e ∙ answer-turn next number p l m x turn-once

    -- those after it are later
    pub turn-later : (k : List ℕ) (i : ℕ) (j : List ℕ) → m ≡ k ++ (i ∷ j) → earlier keys p i ≡ true
    turn-later k i j f = earlier-at keys p k i j (subst (EarlierThan keys p) f (order-latter keys l (p ∷ m) (subst (InOrder keys) e o.in_order)).0)
