-- Histories stay among the held certificates, and two views that hold a certificate see one history of it.
use Rattle.std.proofs.Common.{◌≡◌, refl, sym, ap, ◌∙◌, Bool, true, false, true≢false, ℕ, Option, Some, None}
use Rattle.base.proofs.Words.{false≢true}
use Rattle.agreement.specs.Rules.{Rules}
use Rattle.agreement.specs.View.{View, Log}
use Rattle.agreement.specs.Dag.{is_held, vote, Held, Placed, Reach, here, back}
use Rattle.agreement.specs.Invariants.{Storing}

-- a vote comes from a certificate that names
pub vote-by : (R : Rules) {a : ℕ} (o : Option R.P) → vote R a o ≡ true → (q : R.P) × (o ≡ Some q) × (R.names q a ≡ true)
vote-by R None h = absurd (false≢true h)
vote-by R (Some q) h = (q, refl, h)

-- what is held is some certificate
pub held_by : {P : Type 0} (o : Option P) → is_held o ≡ true → (q : P) × (o ≡ Some q)
held_by None h = absurd (false≢true h)
held_by (Some q) h = (q, refl)

-- a place where nothing is held
pub absent : {P : Type 0} (o : Option P) → is_held o ≡ false → o ≡ None
absent None h = refl
absent (Some x) h = absurd (true≢false h)

-- no place has two certificates, one in s and one in t
pub record Compatible {R : Rules} (s t : View R) : Type 0 where
  pub alike : {a r : ℕ} {p q : R.P} → s.dag a r ≡ Some p → t.dag a r ≡ Some q → p ≡ q

module _ {R : Rules} {s : View R} (X : Placed s) where
  open R use {P}

  -- what is held is held at its own place
  pub on-place : {a r : ℕ} {p : P} → s.dag a r ≡ Some p → Held s p
  on-place h = rw ((X.place h).0, (X.place h).1) h

  pub reach_held : {x q : P} → Held s x → Reach s x q → Held s q
  reach_held h here = h
  reach_held h (back m a e n hq l) = reach_held (on-place hq) l

module _ {R : Rules} {correct : ℕ → Bool} {G : Log R} {t : View R} (T : Storing correct G t) where
  open R use {P, author}

  pub all_placed : Placed t
  all_placed =
      record {
        place = λ h. T.place h;
        member = λ {a} {r} {p} h. let b = T.certified h in rw (← (T.place h).0) (b.quorum.inside (author p) b.with_author);
      }

  pub at_place : {a r : ℕ} {p : P} → t.dag a r ≡ Some p → Held t p
  at_place h = on-place all_placed h

  -- the history of p in s is its history in t
  pub carry : {s : View R} → Compatible s t → {p q : P} → Held t p → Reach s p q → Reach t p q × Held t q
  carry e h here = (here, h)
  carry e h (back {q = q} m a er n hq l) =
      let c = T.closed h m a er n in
      let hq' : t.dag a m ≡ Some q = c.1 ∙ ap Some (sym (e.alike hq c.1)) in
      let rest = carry e (at_place hq') l in
      (back m a er n hq' rest.0, rest.1)
