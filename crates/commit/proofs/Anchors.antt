-- The leaders that are left are the anchors that the theory takes.
use Rattle.std.proofs.Common.{◌≡◌, refl, sym, ap, ◌∙◌, subst, Bool, true, false, cond, List, [], ◌∷◌, ℕ, zero, suc, ◌+◌, ◌-◌, ◌≤◌, ◌<◌, arith, ltb, get_or, length, ltb-true, ltb-false, lt-ltb, Option, Some, None}
use Rattle.base.specs.Sets.{only}
use Rattle.agreement.specs.Rules.{last, Rules}
use Rattle.agreement.specs.View.{View}
use Rattle.agreement.specs.Dag.{is_held, Held}
use Rattle.agreement.proofs.DagLaws.{on-place}
use Rattle.agreement.specs.Commits.{anchor_at, choose, taken}
use Rattle.agreement.proofs.HistoryLaws.{history-held}
use Rattle.store.specs.Table.{Row}
use Rattle.store.proofs.TableLaws.{held-member}
use Rattle.blocks.specs.History.{in_history}
use Rattle.blocks.specs.Anchors.{taken_leaders}
use Rattle.blocks.proofs.TakenLaws.{taken-other, taken_at}
use Rattle.commit.proofs.Histories.{Shows, history-same}
use Rattle.agreement.specs.Histories as theory

module _ {R : Rules} (s : View R) where
  open R use {P, leader, committee}

  -- the certificate of the leader that a list has for a round, 16 for none
  unfoldable pub anchor_in : List ℕ → ℕ → Option P
  anchor_in l r = cond (ltb (get_or l r 0) 16) (s.dag (get_or l r 0) r) None

  -- where the list has a
  pub anchor_in_lem : (l : List ℕ) (r a : ℕ) → get_or l r 0 ≡ a → anchor_in l r ≡ cond (ltb a 16) (s.dag a r) None
  unfolding anchor_in
  anchor_in_lem l r a e = rw e refl

  abbrev pub onto : Option P → List P → List P
  onto None l = l
  onto (Some q) l = q ∷ l

  -- those of the n rounds above m, the newest first
  unfoldable pub anchors_in : List ℕ → ℕ → ℕ → List P
  anchors_in l m zero = []
  anchors_in l m (suc n) = onto (anchor_in l (m + suc n)) (anchors_in l m n)

module _ {R : Rules} (s : View R) where
  open R use {P, author, round}

  -- what a commit finds
  pub record Ready (c k : ℕ) (l t : List ℕ) (x : P) : Type 0 where
    pub shows : Shows s c t
    pub few : k ≤ last s.chain
    pub held : Held s x
    pub above : last s.chain < round x
    pub inside : round x ≤ c
    pub leads : get_or l (round x) 0 ≡ author x
    pub led : (r : ℕ) → last s.chain < r → r < round x → anchor_at s r ≡ anchor_in s l r
    pub leaders : round x < length l
    pub table : Row t c

module _ {R : Rules} {s : View R} {c k : ℕ} {l t : List ℕ} {x : R.P} (W : Ready s c k l t x) where
  open R use {P, author, round}

  abbrev m : ℕ
  m = last s.chain

  abbrev left : List ℕ
  left = taken_leaders t m (round x) l

  pub author-low : {y : P} → Held s y → author y < 16
  author-low {y} h = subst (λ (z : ℕ). author y < z) W.shows.sixteen (W.shows.placed.member h)

  pub left-top : get_or left (round x) 0 ≡ author x
  left-top = taken-other t m (round x) l W.above (round x) (λ _. omega arith) ∙ W.leads

  -- y is the latest anchor left above n rounds
  record Latest (n : ℕ) (y : P) : Type 0 where
    held : Held s y
    above : m + n < round y
    below : round y ≤ round x
    its : get_or left (round y) 0 ≡ author y
    gone : (i : ℕ) → m + n < i → i < round y → 16 ≤ get_or left i 0

  module _ (n : ℕ) (f : (y : P) → Latest n y → anchors_in s left m n ≡ taken s n y) (y : P) (L : Latest (suc n) y) where
    abbrev r : ℕ
    r = m + suc n

    abbrev a : ℕ
    a = get_or l r 0

    at : get_or left r 0 ≡ cond (theory.in_history s y r a) a 16
    at =
        let i = L.above in
        let j = L.below in
        taken_at t m (round x) l W.above W.leaders (subst (λ (z : ℕ). z < 16) (sym W.leads) (author-low W.held)) r (round y) (omega arith) L.above L.below
        (subst (λ (z : ℕ). z < 16) (sym L.its) (author-low L.held)) (λ i x y. L.gone i x y)
        ∙ ap (λ (z : ℕ). cond (in_history t (round y) (only z) a r) a 16) L.its
        ∙ ap (λ (z : Bool). cond z a 16) (history-same W.shows L.held (omega (arith, W.inside)) (author-low L.held) a r (omega arith))

    -- the leader of r is not taken
    struck : theory.in_history s y r a ≡ false → anchors_in s left m (suc n) ≡ taken s n y
    unfolding anchors_in anchor_in
    struck h =
        let e : get_or left r 0 ≡ 16 = at ∙ rw h refl in
        rw e (f y (record { held = L.held; above = omega (arith, L.above); below = L.below; its = L.its; gone = gone e }))
      where
        gone : get_or left r 0 ≡ 16 → (i : ℕ) → m + n < i → i < round y → 16 ≤ get_or left i 0
        gone e i p q = by (ltb r i) refl
          where
            by : (b : Bool) → ltb r i ≡ b → 16 ≤ get_or left i 0
            by true z = L.gone i (ltb-true r i z) q
            by false z = let w : i ≡ r = omega (arith, ltb-false r i z) in rw (w, e) (omega arith)

    -- it is taken
    kept : (q : P) → theory.in_history s y r a ≡ true → s.dag a r ≡ Some q → a < 16 → anchors_in s left m (suc n) ≡ q ∷ taken s n q
    unfolding anchors_in anchor_in
    kept q h g b =
        let p = W.shows.placed.place g in
        let e : get_or left r 0 ≡ a = at ∙ rw h refl in
        rw (e, lt-ltb a 16 b, g)
        (ap (λ (z : List P). q ∷ z) (f q (record {
          held = on-place W.shows.placed g;
          above = omega (arith, p.1);
          below = omega (arith, p.1, L.above, L.below);
          its = rw (p.1, p.0) e;
          gone = λ i u v. absurd (omega (arith, p.1));
        })))

    next : anchors_in s left m (suc n) ≡ taken s (suc n) y
    unfolding taken anchor_in
    next = rw (W.led r (omega arith) (omega (arith, L.above, L.below))) (go (ltb a 16) refl)
      where
        test : (q : P) → s.dag a r ≡ Some q → a < 16 → (b : Bool) → theory.in_history s y r a ≡ b → anchors_in s left m (suc n) ≡ cond b (q ∷ taken s n q) (taken s n y)
        test q g z true h = kept q h g z
        test q g z false h = struck h

        held : a < 16 → (o : Option P) → s.dag a r ≡ o → anchors_in s left m (suc n) ≡ choose s y (λ y. taken s n y) o
        held z None g = struck (history-held W.shows.placed L.held r a (rw g refl))
        held z (Some q) g = let p = W.shows.placed.place g in rw (p.0, p.1) (test q g z (theory.in_history s y r a) refl)

        nobody : 16 ≤ a → is_held (s.dag a r) ≡ false
        nobody h = by (is_held (s.dag a r)) refl
          where
            by : (b : Bool) → is_held (s.dag a r) ≡ b → b ≡ false
            by true e = absurd (omega (arith, held-member t a r (W.shows.held a r (omega arith) (omega (arith, L.above, L.below, W.inside)) ∙ e)))
            by false e = refl

        go : (b : Bool) → ltb a 16 ≡ b → anchors_in s left m (suc n) ≡ choose s y (λ y. taken s n y) (cond b (s.dag a r) None)
        go true z = held (ltb-true a 16 z) (s.dag a r) refl
        go false z = struck (history-held W.shows.placed L.held r a (nobody (ltb-false a 16 z)))

  anchors-taken : (n : ℕ) (y : P) → Latest n y → anchors_in s left m n ≡ taken s n y
  unfolding anchors_in taken
  anchors-taken zero y L = refl
  anchors-taken (suc n) y L = next n (anchors-taken n) y L

  -- the anchors left are those that the theory takes
  pub anchors-left : anchors_in s left m (round x - m) ≡ x ∷ taken s (round x - suc m) x
  unfolding anchors_in anchor_in
  anchors-left =
      let e : round x - m ≡ suc (round x - suc m) = omega (arith, W.above) in
      let i : m + suc (round x - suc m) ≡ round x = omega (arith, W.above) in
      rw (e, i, left-top, lt-ltb (author x) 16 (author-low W.held), W.held)
      (ap (λ (z : List P). x ∷ z) (anchors-taken (round x - suc m) x
      (record { held = W.held; above = omega (arith, W.above); below = omega arith; its = left-top; gone = λ i p q. absurd (omega arith) })))
