-- What a run's submissions count as, and which of its requests are submitted: by the sets and the rights alone.
use Rattle.std.proofs.Common.{◌≡◌, refl, sym, ap, ap₂, ◌∙◌, subst, Bool, true, false, cond, ◌&&◌, List, [], ◌∷◌, ◌++◌, ℕ, length, eqb, eqb-true, Option, Some, None}
use Rattle.base.specs.Checks.{refusal}
use Rattle.base.specs.Options.{if_there}
use Rattle.base.proofs.Bools.{both}
use Rattle.base.proofs.CheckLaws.{passes}
use Rattle.agreement.specs.Entries as entries
use Rattle.agreement.specs.Entries.{states}
use Rattle.terms.specs.declared.sheet.Rights.{Rights}
use Rattle.terms.specs.Rights.{caller_refusal}
use Rattle.state.specs.WellFormed.{well_formed}
use Rattle.batch.specs.Batch.{batch_checks, batch_refusal, turns_of}
use Rattle.engine.specs.Calls.{Call}
use Rattle.engine.specs.Engine.{Engine, after}
use Rattle.engine.proofs.GuestLaws.{call-rights}
use Rattle.engine.proofs.ReachedLaws.{opened-fresh}
use Rattle.nonforking.specs.Statement.{Members, Entry, engine_after, Run, engine_behaviour}
use Rattle.nonforking.proofs.RunLaws.{run-good}
use Rattle.submissions.specs.Submissions.{Submission, one, batch, accepts_of, calls_of, entries_of, engine_then, unrolled}
use Rattle.submissions.specs.Requests.{Asked, Request, host, guest, needed_for, submitted_by, result_of, submission_of, engine_asked, submitted}
use Rattle.submissions.proofs.SubmissionLaws.{then-unrolled}
use Rattle.submissions.proofs.RequestLaws.{chains_never_fork_with_guests}

-- who makes them is among the correct
abbrev pub are_by : {A : Type 0} → (ℕ → Bool) → List (entries.Entry A) → Bool
are_by correct [] = true
are_by correct (x ∷ l) = correct x.who && are_by correct l

-- the calls that a submission counts as on any well-formed state
abbrev pub count_of : Submission → List Call
count_of (one c) = c ∷ []
count_of (batch row answers) = cond (eqb (refusal (batch_checks row.count (length answers))) 0) (accepts_of row (turns_of row)) []

abbrev pub counted : List (entries.Entry Submission) → List Entry
counted [] = []
counted (x ∷ l) = entries_of x.who (count_of x.call) ++ counted l

-- what a request submits where the rights are R
abbrev pub submits_by : Rights → Request → Option Submission
submits_by R (host x) = Some x
submits_by R (guest c a) = cond (eqb (caller_refusal R (needed_for a) c) 0) (Some (submitted_by c a)) None

count-so : (e : Engine) → well_formed e.state e.table ≡ true → (x : Submission) → calls_of e x ≡ count_of x
unfolding batch_refusal
count-so e h (one c) = refl
count-so e h (batch row answers) =
    ap (λ (n : ℕ). cond (eqb n 0) (accepts_of row (turns_of row)) []) (passes 1 (batch_checks row.count (length answers)) (rw h refl))

submits-so : (e : Engine) (x : Request) → submission_of e x ≡ submits_by e.state.rights x
submits-so e (host x) = refl
submits-so e (guest c a) = refl

module _ (X : Members engine_behaviour) where
  open X use {correct, before, sheet}

  abbrev pub submits : List (entries.Entry Request) → List (entries.Entry Submission)
  submits [] = []
  submits (x ∷ l) = if_there (submits_by (sheet x.who).rights x.call) (submits l) (λ s. record { who = x.who; call = s } ∷ submits l)

  -- ---- a run

  -- so are its earlier entries
  earlier : (m l : List Entry) → Run X (m ++ l) → Run X l
  earlier [] l r = r
  earlier (e ∷ m) l r = earlier m l r.2

  -- a member's rights are those of its sheet
  rights-so : (l : List Entry) → Run X l → (i : ℕ) → correct i ≡ true → (engine_after X l i).state.rights ≡ (sheet i).rights
  unfolding states
  rights-so [] r i c = (opened-fresh (before i) (record { 0 = i }) (sheet i) (X.accepted i c)).its_rights
  rights-so (e ∷ l) r i c = go (eqb i e.who) refl (rights-so l r.2 i c)
    where
      go : (b : Bool) → eqb i e.who ≡ b → (engine_after X l i).state.rights ≡ (sheet i).rights → (cond b (after (engine_after X l i) e.call) (engine_after X l i)).state.rights ≡ (sheet i).rights
      go true q h =
          call-rights (engine_after X l i) e.call (λ own other p. subst (λ (k : ℕ). engine_behaviour.refusal (engine_after X l k) e.call ≡ 0 → ⊥) (sym (eqb-true i e.who q)) (r.0.still_open own other p)) ∙ h
      go false q h = h

  -- ---- lists of submissions and of requests

  pub unrolled-so : (l : List (entries.Entry Submission)) → are_by correct l ≡ true → Run X (counted l) → unrolled X l ≡ counted l
  unfolding unrolled
  unrolled-so [] c r = refl
  unrolled-so (x ∷ l) c r =
      let k = both (correct x.who) _ c in
      let t = earlier (entries_of x.who (count_of x.call)) (counted l) r in
      let h = unrolled-so l k.1 t in
      let e : engine_then X l x.who ≡ engine_after X (counted l) x.who = then-unrolled X l x.who ∙ ap (λ (m : List Entry). engine_after X m x.who) h in
      let f = (run-good X (counted l) t x.who k.0).formed in
      ap₂ (λ (m : List Call) (n : List Entry). entries_of x.who m ++ n) (count-so (engine_then X l x.who) (subst (λ (d : Engine). well_formed d.state d.table ≡ true) (sym e) f) x.call) h

  -- the rights of a member after requests that are known to be submitted
  rights_asked : (l : List (entries.Entry Request)) → submitted X l ≡ submits l → are_by correct (submits l) ≡ true → Run X (counted (submits l)) → (i : ℕ) → correct i ≡ true
      → (engine_asked X l i).state.rights ≡ (sheet i).rights
  rights_asked l h d t i c =
      let u : Run X (unrolled X (submitted X l)) = subst (λ (m : List (entries.Entry Submission)). Run X (unrolled X m)) (sym h) (subst (Run X) (sym (unrolled-so (submits l) d t)) t) in
      ap (λ (e : Engine). e.state.rights) ((chains_never_fork_with_guests X l u).engines i) ∙ rights-so (unrolled X (submitted X l)) u i c

  pub submitted-so : (l : List (entries.Entry Request)) → are_by correct l ≡ true → are_by correct (submits l) ≡ true → Run X (counted (submits l)) → submitted X l ≡ submits l
  unfolding submitted
  submitted-so [] c d r = refl
  submitted-so (x ∷ l) c d r = go (submits_by (sheet x.who).rights x.call) (λ d t. submitted-so l (both (correct x.who) _ c).1 d t) d r
    where
      here : correct x.who ≡ true
      here = (both (correct x.who) _ c).0

      both_so : (are_by correct (submits l) ≡ true → Run X (counted (submits l)) → submitted X l ≡ submits l) → are_by correct (submits l) ≡ true → Run X (counted (submits l))
          → if_there (submission_of (engine_asked X l x.who) x.call) (submitted X l) (λ s. record { who = x.who; call = s } ∷ submitted X l)
          ≡ if_there (submits_by (sheet x.who).rights x.call) (submits l) (λ s. record { who = x.who; call = s } ∷ submits l)
      both_so f d t =
          let h = f d t in
          ap₂ (λ (o : Option Submission) (m : List (entries.Entry Submission)). if_there o m (λ s. record { who = x.who; call = s } ∷ m))
          (submits-so (engine_asked X l x.who) x.call ∙ ap (λ (R : Rights). submits_by R x.call) (rights_asked l h d t x.who here)) h

      go : (o : Option Submission) → (are_by correct (submits l) ≡ true → Run X (counted (submits l)) → submitted X l ≡ submits l)
          → are_by correct (if_there o (submits l) (λ s. record { who = x.who; call = s } ∷ submits l)) ≡ true
          → Run X (counted (if_there o (submits l) (λ s. record { who = x.who; call = s } ∷ submits l)))
          → if_there (submission_of (engine_asked X l x.who) x.call) (submitted X l) (λ s. record { who = x.who; call = s } ∷ submitted X l)
          ≡ if_there (submits_by (sheet x.who).rights x.call) (submits l) (λ s. record { who = x.who; call = s } ∷ submits l)
      go None f d r = both_so f d r
      go (Some s) f d r = both_so f (both (correct x.who) _ d).1 (earlier (entries_of x.who (count_of s)) (counted (submits l)) r)

  -- who is refused by the sheet's rights is refused
  pub barred-so : (l : List (entries.Entry Request)) → are_by correct l ≡ true → are_by correct (submits l) ≡ true → Run X (counted (submits l)) → (i : ℕ) → correct i ≡ true
      → (c : ℕ) (a : Asked) → eqb (caller_refusal (sheet i).rights (needed_for a) c) 0 ≡ false → (result_of (engine_asked X l i) (guest c a)).refusal ≡ caller_refusal (sheet i).rights (needed_for a) c
  unfolding result_of
  barred-so l b d r i k c a n =
      let q = rights_asked l (submitted-so l b d r) d r i k in
      rw q (rw n refl)
