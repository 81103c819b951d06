-- Two ways in which engines answer, one of which refuses more: its runs, their refused calls left out, are runs of the other.
use Rattle.std.specs.Prelude.{◌≡◌, if◌then◌else◌, List, [], ◌∷◌, ◌≢◌, ◌==◌}
use Rattle.terms.specs.declared.Member.{Member}
use Rattle.terms.specs.declared.sheet.Sheet.{Sheet}
use Rattle.engine.specs.Calls.{Call, opens}
use Rattle.engine.specs.Engine.{Engine}
use Rattle.nonforking.specs.Statement.{Behaviour, Members, Entry, engine_after, Run}

module _ {B : Behaviour} (X : Members B) where
  open B use {refusal}

  -- every call of the list is accepted
  abbrev pub AllAccepted : List Entry → Type 0
  AllAccepted [] = Unit {0}
  AllAccepted (e ∷ l) = (refusal (engine_after X l e.who) e.call ≡ 0) × AllAccepted l

  -- the list, its refused calls left out
  unfoldable pub accepted_only : List Entry → List Entry
  accepted_only [] = []
  accepted_only (e ∷ l) =
      if refusal (engine_after X l e.who) e.call == 0 then e ∷ accepted_only l
      else accepted_only l

-- E refuses whatever D refuses, and perhaps more
pub record RefusesMore (E D : Behaviour) : Type 0 where
  -- what E refuses changes nothing
  pub unchanged : (e : Engine) (c : Call) → E.refusal e c ≢ 0 → E.after e c ≡ e
  -- what E accepts D accepts, and it leaves the same
  pub allowed : (e : Engine) (c : Call) → E.refusal e c ≡ 0 → (D.refusal e c ≡ 0)
      × (D.after e c ≡ E.after e c)
  -- both open alike
  pub opens_alike : (e : Engine) (own : Member) (sheet : Sheet) → D.after e (opens own sheet)
      ≡ E.after e (opens own sheet)

module _ {E D : Behaviour} (R : RefusesMore E D) (X : Members E) where
  open X use {correct, before, sheet, accepted, settings, equal}

  -- the same members, answering as D
  abbrev pub answering_as : Members D
  answering_as =
      record {
        correct = correct;
        before = before;
        sheet = sheet;
        accepted =
            λ k c. (R.allowed (before k) (opens (record { 0 = k }) (sheet k)) (accepted k c)).0;
        settings = settings;
        equal = equal;
      }

  -- the run l of E, its refused calls left out, was allowed by D
  pub record WasAllowed (l : List Entry) : Type 0 where
    -- it is a run of D: every entry is fair, and the bound holds at the start and after each entry
    pub run : Run answering_as (accepted_only X l)
    -- D accepts every call of it
    pub all_accepted : AllAccepted answering_as (accepted_only X l)
