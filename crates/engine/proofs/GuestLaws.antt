-- A guest never opens, and rights stay as the open fixed them.
use Rattle.std.proofs.Common.{◌≡◌, refl, sym, ap, ◌∙◌, Bool, true, false, true≢false, List, [], ◌∷◌, ℕ}
use Rattle.base.proofs.Words.{ℕ_discrete}
use Rattle.engine.specs.Calls.{Call, opens}
use Rattle.engine.specs.Engine.{Engine, refusal_for, after}
use Rattle.engine.specs.Sequences.{after_calls, NoOpen, NoOpens, Opening, after_opening}
use Rattle.engine.proofs.AfterLaws.{renewed, refused-same, accepted-new}
use Rattle.engine.specs.Guests as guest
use Rattle.engine.specs.Guests.{GuestCall, as_host}

-- a guest never opens
abbrev is_open : Call → Bool
is_open (opens own sheet) = true
is_open c = false

no_open : (c : ℕ) (k : GuestCall) → is_open (as_host c k) ≡ false
no_open c (guest.propose b) = refl
no_open c x = refl

pub guest-opens-none : (e : Engine) (c : ℕ) (k : GuestCall) → NoOpen e (as_host c k)
guest-opens-none e c k own sheet q = absurd (true≢false (sym (ap is_open q) ∙ no_open c k))

-- an accepted call but open
renewed-rights : (e : Engine) (c : Call) → NoOpen e c → refusal_for e c ≡ 0 → (renewed e c).state.rights ≡ e.state.rights
renewed-rights e (opens own sheet) n a = absurd (n own sheet refl a)
renewed-rights e c n a = refl

pub call-rights : (e : Engine) (c : Call) → NoOpen e c → (after e c).state.rights ≡ e.state.rights
call-rights e c n = go (ℕ_discrete (refusal_for e c) 0)
  where
    go : Dec (refusal_for e c ≡ 0) → (after e c).state.rights ≡ e.state.rights
    go (yes a) = ap (λ (d : Engine). d.state.rights) (accepted-new e c a) ∙ renewed-rights e c n a
    go (no r) = ap (λ (d : Engine). d.state.rights) (refused-same e c r)

-- no list of calls without an accepted open changes them
pub rights_kept : (e : Engine) (l : List Call) → NoOpens e l → (after_calls e l).state.rights ≡ e.state.rights
unfolding after_calls
rights_kept e [] n = refl
rights_kept e (c ∷ l) n = call-rights (after_calls e l) c n.0 ∙ rights_kept e l n.1

-- after an accepted open they are those of its sheet
pub rights_opened : (x : Opening) → (after_opening x).state.rights ≡ x.sheet.rights
rights_opened x = ap (λ (d : Engine). d.state.rights) (accepted-new x.before (opens x.own x.sheet) x.accepted)
