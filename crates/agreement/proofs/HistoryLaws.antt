-- The computed history is the history.
use Rattle.std.proofs.Common.{◌≡◌, refl, sym, ◌∙◌, subst, Bool, true, false, ◌&&◌, true≢false, ℕ, zero, suc, ◌+◌, ◌-◌, ◌≤◌, ◌<◌, arith, eqb, leb, eqb-true, eq-eqb, leb-true, le-leb, Some}
use Rattle.std.proofs.lemmas.Option.{same_Some}
use Rattle.base.proofs.Words.{lt-leb}
use Rattle.base.proofs.Bools.{both}
use Rattle.base.specs.Folds.{any_to}
use Rattle.base.proofs.TestLaws.{any_true, true_any}
use Rattle.agreement.specs.Rules.{Rules}
use Rattle.agreement.specs.View.{View}
use Rattle.agreement.specs.Dag.{is_held, vote, Held, Placed, Reach, here, back}
use Rattle.agreement.proofs.DagLaws.{vote-by, held_by, on-place}
use Rattle.agreement.specs.Histories.{level, in_history}

module _ {R : Rules} (s : View R) where
  open R use {size, P, author, round, names}

  -- of its own round x has itself in its history
  pub history-here : (x : P) (a : ℕ) → in_history s x (round x) a ≡ eqb a (author x)
  unfolding in_history level
  history-here x a =
      let e : round x - round x ≡ 0 = omega arith in
      rw (e, le-leb (round x) (round x) (omega arith)) refl

  -- of a round below, the held certificates that those of the round above name
  pub history-down : (x : P) (r a : ℕ) → r < round x
      → in_history s x r a ≡ (is_held (s.dag a r) && any_to (λ i. in_history s x (suc r) i && vote R a (s.dag i (suc r))) size)
  unfolding in_history level
  history-down x r a h =
      let e : round x - r ≡ suc (round x - suc r) = omega arith in
      let up : round x - (round x - suc r) ≡ suc r = omega arith in
      let down : round x - suc (round x - suc r) ≡ r = omega arith in
      rw (e, up, down, le-leb r (round x) (omega arith), le-leb (suc r) (round x) (omega arith)) refl

  -- of a round above, nothing
  pub history-above : (x : P) (r a : ℕ) → round x < r → in_history s x r a ≡ false
  unfolding in_history
  history-above x r a h = rw (lt-leb r (round x) h) refl

  -- one more step back
  reach_more : {p q t : P} (m a : ℕ) → Reach s p q → round q ≡ suc m → names q a ≡ true → s.dag a m ≡ Some t → Reach s p t
  reach_more m a here e n h = back m a e n h here
  reach_more m a (back m' a' e' n' h' l) e n h = back m' a' e' n' h' (reach_more m a l e n h)

module _ {R : Rules} {s : View R} (X : Placed s) where
  open R use {size, P, author, round, names}

  level-down : {x : P} (d a : ℕ) → suc d ≤ round x → level s x (suc d) a ≡ true
      → ((i : ℕ) → level s x d i ≡ true → (q : P) × (s.dag i (round x - d) ≡ Some q) × Reach s x q)
      → (q : P) × (s.dag a (round x - suc d) ≡ Some q) × Reach s x q
  unfolding level
  level-down {x} d a l h f =
      let k = both (is_held (s.dag a (round x - suc d))) (any_to (λ i. level s x d i && vote R a (s.dag i (round x - d))) size) h in
      let q = held_by (s.dag a (round x - suc d)) k.0 in
      let i = any_true (λ i. level s x d i && vote R a (s.dag i (round x - d))) size k.1 in
      let b = both (level s x d i.0) (vote R a (s.dag i.0 (round x - d))) i.2 in
      let v = vote-by R (s.dag i.0 (round x - d)) b.1 in
      let y = f i.0 b.0 in
      let e : y.0 ≡ v.0 = same_Some y.0 v.0 (sym y.1 ∙ v.1) in
      let r : round v.0 ≡ suc (round x - suc d) = omega (arith, (X.place v.1).1) in
      (q.0, q.1, reach_more s (round x - suc d) a (subst (λ (z : P). Reach s x z) e y.2) r v.2 q.1)

  -- what is at a level is held, and in the history
  level_reach : {x : P} → Held s x → (d a : ℕ) → d ≤ round x → level s x d a ≡ true → (q : P) × (s.dag a (round x - d) ≡ Some q) × Reach s x q
  unfolding level
  level_reach {x} hx zero a l h =
      let e : a ≡ author x = eqb-true a (author x) h in
      let z : round x - 0 ≡ round x = omega arith in
      (x, rw (e, z) hx, here)
  level_reach {x} hx (suc d) a l h = level-down d a l h λ i k. level_reach hx d i (omega arith) k

  level-up : (x : P) {y q : P} (d m a : ℕ) → Held s y → round y + d ≡ round x → level s x d (author y) ≡ true
      → round y ≡ suc m → names y a ≡ true → s.dag a m ≡ Some q → level s x (suc d) a ≡ true
  unfolding level
  level-up x {y} {q} d m a hy e h er n hq =
      let below : round x - suc d ≡ m = omega arith in
      let level' : round x - d ≡ round y = omega arith in
      let named : vote R a (s.dag (author y) (round x - d)) ≡ true = rw (level', hy) n in
      let found : any_to (λ i. level s x d i && vote R a (s.dag i (round x - d))) size ≡ true =
      true_any (λ i. level s x d i && vote R a (s.dag i (round x - d))) size (author y)
      (X.member hy) (rw (h, named) refl) in
      rw (below, hq, found) refl

  reach_level : {x y q : P} (d : ℕ) → Held s y → round y + d ≡ round x → level s x d (author y) ≡ true → Reach s y q
      → (round q ≤ round x) × (level s x (round x - round q) (author q) ≡ true)
  reach_level {x = x} d hy e h (here {p = p}) = let k : round x - round p ≡ d = omega arith in (omega arith, rw k h)
  reach_level {x = x} d hy e h (back {q = q} m a er n hq l) =
      let p = X.place hq in
      let up : level s x (suc d) (author q) ≡ true = rw p.0 (level-up x d m a hy e h er n hq) in
      reach_level (suc d) (on-place X hq) (omega (arith, p.1)) up l

  -- the computed history is the history
  pub history_reach : {x : P} → Held s x → (r a : ℕ) → in_history s x r a ≡ true → (q : P) × (s.dag a r ≡ Some q) × Reach s x q
  unfolding in_history
  history_reach {x} hx r a h =
      let k = both (leb r (round x)) (level s x (round x - r) a) h in
      let l = leb-true r (round x) k.0 in
      let e : round x - (round x - r) ≡ r = omega arith in
      rw e at (level_reach hx (round x - r) a (omega arith) k.1)

  pub reach_history : {x q : P} → Held s x → Reach s x q → in_history s x (round q) (author q) ≡ true
  unfolding in_history level
  reach_history {x} {q} hx l =
      let k = reach_level 0 hx (omega arith) (eq-eqb (author x) (author x) refl) l in
      rw (le-leb (round q) (round x) k.0, k.1) refl

  -- what is not held is in no history
  pub history-held : {x : P} → Held s x → (r a : ℕ) → is_held (s.dag a r) ≡ false → in_history s x r a ≡ false
  history-held {x} hx r a h = go (in_history s x r a) refl
    where
      go : (b : Bool) → in_history s x r a ≡ b → b ≡ false
      go true e = let q = history_reach hx r a e in absurd (true≢false (rw q.1 at h))
      go false e = refl
