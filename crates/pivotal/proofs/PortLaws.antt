-- The list of what a commit hangs on does not change with the words of ports.
use Rattle.std.proofs.Common.{◌≡◌, refl, sym, ap, ◌∙◌, List, ℕ, zero, suc, ◌-◌, ◌*◌, ◌<◌, ◌≤◌, arith, length, get_or, set, length-set, get_or-set_same, get_or-set_other}
use Rattle.base.proofs.Words.{ℕ_discrete, dec_lt, get_or-eq_default, paste}
use Rattle.base.specs.Checks.{refusal}
use Rattle.base.specs.Sets.{remove}
use Rattle.base.proofs.PasteLaws.{paste-below}
use Rattle.store.specs.Table.{row_length, Row, held_set, held_at}
use Rattle.store.specs.Writes.{set_held, clear_held}
use Rattle.store.proofs.FirstRow.{OnlyFirst, only-paste}
use Rattle.rules.specs.Tests.{MemberView}
use Rattle.rules.specs.Calls as rules
use Rattle.ports.specs.Ports.{port_start, port_count, port_length}
use Rattle.state.specs.declared.State.{State}
use Rattle.state.proofs.FirstRow.{view-only}
use Rattle.critical.specs.Critical.{refusal_without, is_critical, critical_at, critical_in, critical_places}
use Rattle.engine.specs.Engine.{Engine}

module _ (t : List ℕ) (row : Row t 0) (g : ℕ) (guest : g < 8) (w : List ℕ) (size : length w ≡ 8) where
  abbrev u : List ℕ
  u = paste t (port_start g) w 8

  only : OnlyFirst t u
  only = only-paste t (port_start g) w 8 (omega arith) (omega arith) (omega arith)

  -- the held set of a row, row 0 too
  set_same : (q : ℕ) → held_set u q ≡ held_set t q
  unfolding held_set
  set_same zero = paste-below t (port_start g) w 8 (omega arith) size 0 (omega arith)
  set_same (suc q) = only.rest (suc q * row_length) (omega arith)

  held_same : (a q : ℕ) → held_at u a q ≡ held_at t a q
  unfolding held_at
  held_same a q = rw (set_same q) refl

  -- with a certificate taken away
  only_without : (a q : ℕ) → OnlyFirst (clear_held t a q) (clear_held u a q)
  unfolding clear_held set_held
  only_without a q =
      let x = remove (held_set t q) a in
      let y = remove (held_set u q) a in
      record { size = length-set u (q * row_length) y ∙ only.size ∙ sym (length-set t (q * row_length) x); rest = λ i h. go x y (ap (λ (z : ℕ). remove z a) (set_same q)) i h (ℕ_discrete i (q * row_length)) (dec_lt i (length t)) }
    where
      go : (x y : ℕ) → y ≡ x → (i : ℕ) → row_length ≤ i → Dec (i ≡ q * row_length) → Dec (i < length t) → get_or (set u (q * row_length) y) i 0 ≡ get_or (set t (q * row_length) x) i 0
      go x y e i h (no n) d = get_or-set_other u (q * row_length) i y 0 n ∙ only.rest i h ∙ sym (get_or-set_other t (q * row_length) i x 0 n)
      go x y e i h (yes z) (yes d) = rw z (get_or-set_same u (q * row_length) y 0 (omega (arith, only.size)) ∙ e ∙ sym (get_or-set_same t (q * row_length) x 0 (omega arith)))
      go x y e i h (yes z) (no d) = get_or-eq_default (set u (q * row_length) y) 0 {n = i} (omega (arith, only.size, length-set u (q * row_length) y)) ∙ sym (get_or-eq_default (set t (q * row_length) x) 0 {n = i} (omega (arith, length-set t (q * row_length) x)))

  module _ (s : State) where
    without_same : (a q : ℕ) → refusal_without s u a q ≡ refusal_without s t a q
    unfolding refusal_without
    without_same a q = ap (λ (v : MemberView s.settings). refusal (rules.checks s.settings s.own.0 v rules.commit)) (view-only s (only_without a q))

    critical-same : (a q : ℕ) → is_critical s u a q ≡ is_critical s t a q
    unfolding is_critical
    critical-same a q = rw (held_same a q, without_same a q) refl

    row_same : (q n : ℕ) → critical_in s u q n ≡ critical_in s t q n
    unfolding critical_in critical_at
    row_same q zero = refl
    row_same q (suc n) = rw (row_same q n, critical-same n q) refl

    places_same : critical_places s u ≡ critical_places s t
    unfolding critical_places
    places_same = rw (row_same (s.round - 1) 16, row_same s.round 16) refl

-- so the list is the same whatever the words of a port are
pub ports_not_counted : (e : Engine) → Row e.table 0 → (g : ℕ) → g < port_count → (w : List ℕ) → length w ≡ port_length
    → critical_places e.state (paste e.table (port_start g) w port_length) ≡ critical_places e.state e.table
ports_not_counted e row g guest w size = places_same e.table row g guest w size e.state
