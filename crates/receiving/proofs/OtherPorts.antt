-- What a caller asks leaves every other guest's port as it was.
use Rattle.std.proofs.Common.{◌≡◌, refl, sym, ap, ◌∙◌, Bool, true, false, cond, List, [], ◌∷◌, ◌++◌, ◌⊎◌, inl, inr, ◌≢◌, ℕ, ◌<◌, eqb, length, Option, Some, None}
use Rattle.base.proofs.Words.{ℕ_discrete}
use Rattle.base.specs.Options.{if_there}
use Rattle.terms.specs.declared.Certificate.{Certificate}
use Rattle.serial.specs.Calls.{Access, PortCall, access, port_of}
use Rattle.serial.specs.Serial.{port_then, ported_table}
use Rattle.serial.proofs.LeftLaws.{port-passed}
use Rattle.serial.proofs.PutLaws.{others_put}
use Rattle.engine.specs.Calls.{Call, opens, accept, port, InRange}
use Rattle.engine.specs.Engine.{Engine, refusal_for, after}
use Rattle.engine.specs.Sequences.{after_calls, AllInRange, NoOpen}
use Rattle.engine.specs.Reached.{Intact, Reached}
use Rattle.engine.proofs.AfterLaws.{refused-same, accepted-new}
use Rattle.engine.proofs.PortLaws.{leaves_ports as keeps_ports}
use Rattle.engine.proofs.ReachedLaws.{intact, intact-after}
use Rattle.engine.specs.Guests as guest
use Rattle.engine.specs.Guests.{GuestCall, as_host}
use Rattle.batch.specs.Batch.{Row, turns_of, batch_refusal}
use Rattle.submissions.specs.Submissions.{batch, accepts_of, after_submission, calls_of}
use Rattle.submissions.specs.Requests as requests
use Rattle.submissions.specs.Requests.{Asked, asks, asks_batch, submitted_by, caller_number, InRangeThen, submission_of, result_of}
use Rattle.submissions.proofs.SubmissionLaws.{leaves_as_its_calls}
use Rattle.submissions.proofs.RequestLaws.{left_by}
use Rattle.receiving.specs.Received.{port_on}
use Rattle.receiving.proofs.GrownListings.{port-same}

module _ (h : ℕ) (low : h < 8) where
  -- ---- calls that leave ports

  call-leaves : (e : Engine) → Intact e → (c : Call) → keeps_ports c ≡ true → InRange c → port_on (after e c) h ≡ port_on e h
  call-leaves e k c l i = go (ℕ_discrete (refusal_for e c) 0)
    where
      go : Dec (refusal_for e c ≡ 0) → port_on (after e c) h ≡ port_on e h
      go (yes a) = port-same e k c l i a h low
      go (no n) = ap (λ (d : Engine). port_on d h) (refused-same e c n)

  -- what is asked of another port leaves it too
  other-leaves : (e : Engine) (x : PortCall) → port_of x ≢ h → port_on (after e (port x)) h ≡ port_on e h
  unfolding ported_table
  other-leaves e x n = go (ℕ_discrete (refusal_for e (port x)) 0)
    where
      go : Dec (refusal_for e (port x) ≡ 0) → port_on (after e (port x)) h ≡ port_on e h
      go (yes z) =
          let p = port-passed e.state e.table x z in
          ap (λ (d : Engine). port_on d h) (accepted-new e (port x) z) ∙ others_put e.state.settings e.table e.state.blocks (port_of x) p.row p.guest (port_then e.state e.table x) h (λ q. n (sym q))
      go (no m) = ap (λ (d : Engine). port_on d h) (refused-same e (port x) m)

  any_leaves : (e : Engine) → Intact e → (c : Call) → InRange c → NoOpen e c → ((x : PortCall) → c ≡ port x → port_of x ≢ h) → port_on (after e c) h ≡ port_on e h
  any_leaves e k (opens own sheet) i o n = ap (λ (d : Engine). port_on d h) (refused-same e (opens own sheet) (o own sheet refl))
  any_leaves e k (port x) i o n = other-leaves e x (n x refl)
  any_leaves e k c i o n = call-leaves e k c refl i

  -- so for a list of calls that leave ports
  abbrev AllLeave : List Call → Type 0
  AllLeave [] = Unit {0}
  AllLeave (c ∷ m) = (keeps_ports c ≡ true) × AllLeave m

  both_leave : (l m : List Call) → AllLeave l → AllLeave m → AllLeave (l ++ m)
  both_leave [] m x y = y
  both_leave (c ∷ l) m x y = (x.0, both_leave l m x.1 y)

  calls_leave : (e : Engine) → Intact e → (m : List Call) → AllLeave m → AllInRange m → Intact (after_calls e m) × (port_on (after_calls e m) h ≡ port_on e h)
  unfolding after_calls
  calls_leave e k [] x i = (k, refl)
  calls_leave e k (c ∷ m) x i =
      let y = calls_leave e k m x.1 i.1 in
      (intact-after (after_calls e m) y.0 c i.0, call-leaves (after_calls e m) y.0 c x.0 i.0 ∙ y.1)

  -- a batch counts as accepts
  accepts_leave : (row : Row) (l : List ℕ) → AllLeave (accepts_of row l)
  unfolding accepts_of
  accepts_leave row [] = tt
  accepts_leave row (p ∷ l) = both_leave (accepts_of row l) (if_there (row.at p).certificate [] (λ c. accept c ∷ [])) (accepts_leave row l) (go (row.at p).certificate)
    where
      go : (o : Option Certificate) → AllLeave (if_there o [] (λ c. accept c ∷ []))
      go None = tt
      go (Some c) = (refl, tt)

  batch-leaves : (e : Engine) (row : Row) (answers : List ℕ) → AllLeave (calls_of e (batch row answers))
  batch-leaves e row answers = go (eqb (batch_refusal e.state e.table row.count (length answers)) 0)
    where
      go : (b : Bool) → AllLeave (cond b (accepts_of row (turns_of row)) [])
      go true = accepts_leave row (turns_of row)
      go false = tt

  -- ---- what caller c asks

  module _ (e : Engine) (k : Intact e) (c : ℕ) (other : h ≢ c) where
    -- an access to its own port, or a call that leaves ports
    asked-leaves : (x : GuestCall) → (keeps_ports (as_host c x) ≡ true) ⊎ ((a : Access) × (as_host c x ≡ port (access c a)))
    asked-leaves (guest.access a) = inr (a, refl)
    asked-leaves c = inl refl

    pub submitted-leaves : (x : Asked) → AllInRange (calls_of e (submitted_by c x)) → port_on (after_submission e (submitted_by c x)) h ≡ port_on e h
    submitted-leaves (asks x) i = go (asked-leaves x)
      where
        go : (keeps_ports (as_host c x) ≡ true) ⊎ ((a : Access) × (as_host c x ≡ port (access c a))) → port_on (after e (as_host c x)) h ≡ port_on e h
        go (inl l) = call-leaves e k (as_host c x) l i.0
        go (inr y) = ap (λ (d : Call). port_on (after e d) h) y.1 ∙ other-leaves e (access c y.0) (λ q. other (sym q))
    submitted-leaves (asks_batch row answers) i = ap (λ (d : Engine). port_on d h) (leaves_as_its_calls e (batch row answers)) ∙ (calls_leave e k (calls_of e (batch row answers)) (batch-leaves e row answers) i).1

-- no call but an accepted open and what is asked of that port changes it
pub leaves_ports : (e : Engine) → Reached e → (c : Call) → InRange c → NoOpen e c → (h : ℕ) → h < 8 → ((x : PortCall) → c ≡ port x → port_of x ≢ h) → port_on (after e c) h ≡ port_on e h
leaves_ports e r c i o h low n = any_leaves h low e (intact r) c i o n

-- so what a caller asks leaves every other guest's port
pub leaves_other_ports : (e : Engine) → Reached e → (c : ℕ) (a : Asked) → InRangeThen e (submission_of e (requests.guest c a)) → (h : ℕ) → h < 8 → h ≢ c
    → port_on (result_of e (requests.guest c a)).engine h ≡ port_on e h
leaves_other_ports e r c a i h low other = ap (λ (d : Engine). port_on d h) (left_by e (requests.guest c a)) ∙ go (eqb (caller_number e c a) 0) i
  where
    go : (b : Bool) → InRangeThen e (cond b (Some (submitted_by c a)) None) → port_on (if_there (cond b (Some (submitted_by c a)) None) e (after_submission e)) h ≡ port_on e h
    go true j = submitted-leaves h low e (intact r) c other a j
    go false j = refl
