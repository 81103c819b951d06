-- A commit without a certificate is refused as the list has it; the list is refused as a commit is; and 32 places are enough for it.
use Rattle.std.proofs.Common.{◌≡◌, refl, sym, ◌∙◌, Bool, true, false, cond, List, [], ◌∷◌, ℕ, zero, suc, ◌-◌, ◌/◌, ◌≤◌, arith, length, length-append, le-ltb}
use Rattle.base.proofs.Words.{false≢true}
use Rattle.base.proofs.CheckLaws.{refuses, passes}
use Rattle.state.specs.declared.State.{State}
use Rattle.store.specs.Writes.{clear_held}
use Rattle.ports.specs.Ports.{ports_fit}
use Rattle.state.specs.WellFormed.{well_formed}
use Rattle.state.proofs.FormedLaws.{formed, formed-ports, whole}
use Rattle.state.proofs.PreservedLaws.{absent-kept}
use Rattle.critical.specs.Critical.{Place, refusal_without, reading_critical, is_critical, critical_at, critical_in, critical_places}
use Rattle.commit.proofs.CheckLaws.{refusal-by, number-unread}
use Rattle.engine.specs.Calls.{commit, critical, aside}
use Rattle.engine.specs.Engine.{refusal_for, Engine}
use Rattle.std.specs.Prelude.{◌<◌}

-- a list of 32 places is refused as a commit would be, with the same number
pub critical_refused_as_commit : (e : Engine) (words : ℕ) → 32 ≤ words / 2 → refusal_for e (aside (critical words)) ≡ refusal_for e commit
critical_refused_as_commit e words h = go (well_formed e.state e.table) refl
  where
    go : (b : Bool) → well_formed e.state e.table ≡ b → refusal_for e (aside (critical words)) ≡ refusal_for e commit
    go true f = passes 1 (reading_critical e.state e.table words) (rw f refl) ∙ passes 25 _ (le-ltb (words / 2) 32 h) ∙ sym (refusal-by e.state e.table f)
    go false f = refuses 1 (reading_critical e.state e.table words) (rw f refl) ∙ sym (number-unread e.state e.table f)

-- a port past the end makes it 1
unformed : (s : State) (t : List ℕ) → ports_fit s.settings t s.blocks ≡ false → well_formed s t ≡ false
unformed s t p = go (well_formed s t) refl
  where
    go : (b : Bool) → well_formed s t ≡ b → b ≡ false
    go true e = absurd (false≢true (sym p ∙ formed-ports s t e))
    go false e = refl

-- on a well-formed state without the certificate a commit is refused with the number that the list goes by, so check 1 need not be asked again; but with 1 where a serial port stands at what is absent, and the list does not count that
pub absent_as_commit : (e : Engine) → well_formed e.state e.table ≡ true → (a q : ℕ) → a < 16 → 0 < q → q ≤ e.state.settings.ceiling
    → refusal_for (record { state = e.state; table = clear_held e.table a q }) commit ≡ cond (ports_fit e.state.settings (clear_held e.table a q) e.state.blocks) (refusal_without e.state e.table a q) 1
unfolding refusal_without
absent_as_commit e h a q m from to = go (ports_fit s.settings u s.blocks) refl
  where
    s : State
    s = e.state

    u : List ℕ
    u = clear_held e.table a q

    go : (b : Bool) → ports_fit s.settings u s.blocks ≡ b → refusal_for (record { state = s; table = u }) commit ≡ cond b (refusal_without s e.table a q) 1
    go true p = refusal-by s u (whole s u (absent-kept s e.table (formed s e.table h) a q m from to) p)
    go false p = number-unread s u (unformed s u p)

module _ (s : State) (t : List ℕ) (q : ℕ) where
  one : (b : Bool) (x : Place) → length (cond b (x ∷ []) []) ≤ 1
  one true x = omega arith
  one false x = omega arith

  row-few : (n : ℕ) → length (critical_in s t q n) ≤ n
  unfolding critical_in critical_at
  row-few zero = omega arith
  row-few (suc n) = omega (arith, row-few n, one (is_critical s t n q) (record { round = q; author = n }), length-append (critical_in s t q n) (critical_at s t n q))

-- and has room for them, in every state
pub room_for_critical : (e : Engine) → length (critical_places e.state e.table) ≤ 32
unfolding critical_places
room_for_critical e =
    let s = e.state in
    let t = e.table in
    omega (arith, row-few s t (s.round - 1) 16, row-few s t s.round 16, length-append (critical_in s t (s.round - 1) 16) (critical_in s t s.round 16))
