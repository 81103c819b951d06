-- Members refuse more than before an advance asked for a quorum, and runs of now were allowed then.
use Rattle.std.proofs.Common.{◌≡◌, refl, ◌∙◌, subst, Bool, true, false, [], ◌∷◌, ◌⊎◌, ℕ}
use Rattle.base.proofs.Words.{fun_ext}
use Rattle.base.specs.Checks.{refusal}
use Rattle.base.proofs.CheckLaws.{numbered, passes, passes-all}
use Rattle.base.proofs.Passed.{passed}
use Rattle.rules.specs.Calls.{advancing}
use Rattle.state.specs.States.{advanced}
use Rattle.state.specs.View.{view}
use Rattle.state.specs.Refusals.{guarded, refusal_of}
use Rattle.state.proofs.AnswerLaws.{if_accepted-new, if_accepted-old}
use Rattle.advance.specs.Advance.{advance_refusal}
use Rattle.engine.specs.Calls.{Call, opens, advance}
use Rattle.engine.specs.Engine.{Engine, refusal_for, after}
use Rattle.engine.proofs.AfterLaws.{refused-same, accepted-new}
use Rattle.nonforking.specs.Statement.{Prefix, Knows, weights, engine_behaviour, Members, Entry, Run, Agreed, ChainsNeverFork}
use Rattle.earlier.specs.Refusing.{accepted_only, answering_as, WasAllowed}
use Rattle.earlier.specs.Earlier.{earlier_refusal, earlier_after, earlier_behaviour, answered_earlier, MembersRefuseMore}
use Rattle.earlier.proofs.RefusingLaws.{same_engines, runs_were_allowed}
use Rattle.std.specs.Prelude.{◌≢◌, List}

-- an advance that passes now passed earlier
advance-passed-earlier : (e : Engine) → refusal_for e advance ≡ 0 → earlier_refusal e advance ≡ 0
unfolding advance_refusal refusal_of numbered
advance-passed-earlier e h =
    passed (guarded e.state e.table (advancing e.state.settings (view e.state e.table))) refl h λ h1 h18 h8 h28.
    passes 1 _ h1 ∙ passes 18 _ h18 ∙ passes-all

allowed : (e : Engine) (c : Call) → refusal_for e c ≡ 0 → (earlier_refusal e c ≡ 0) × (earlier_after e c ≡ after e c)
allowed e (opens own sheet) a = (a, refl)
allowed e advance a =
    let b = advance-passed-earlier e a in
    (b, rw (if_accepted-new (earlier_refusal e advance) (advanced e.state) e.state b, accepted-new e advance a) refl)
allowed e c a = (a, refl)

pub members_refuse_more : MembersRefuseMore
members_refuse_more = record { unchanged = refused-same; allowed = allowed; opens_alike = λ e own sheet. refl }

-- the first of the checks 1, 18, 8, 28 that fails, and of 1, 18
first-of : (a b c d : Bool) → refusal ((a, 1) ∷ (b, 18) ∷ []) ≡ answered_earlier (refusal ((a, 1) ∷ (b, 18) ∷ (c, 8) ∷ (d, 28) ∷ []))
unfolding refusal answered_earlier
first-of true b c d = refl
first-of false true c d = refl
first-of false false true d = refl
first-of false false false true = refl
first-of false false false false = refl

-- by 8 and 28 of an advance, and by nothing else
pub only_thin_refused : (e : Engine) → earlier_refusal e advance ≡ answered_earlier (refusal_for e advance)
unfolding advance_refusal refusal_of
only_thin_refused e = first-of _ _ _ _

-- what was refused earlier changed nothing
pub earlier_refused_same : (e : Engine) → earlier_refusal e advance ≢ 0 → earlier_after e advance ≡ e
earlier_refused_same e n = rw (if_accepted-old (earlier_refusal e advance) (advanced e.state) e.state n) refl

-- ---- runs

-- every run of now, its refused calls left out, was allowed earlier
pub was_allowed_earlier : (R : MembersRefuseMore) (X : Members engine_behaviour) (l : List Entry) → Run X l → WasAllowed R X l
was_allowed_earlier = runs_were_allowed engine_behaviour earlier_behaviour

-- if members never parted by the earlier rules, they never part now
pub agreement_carries_over : ((X : Members earlier_behaviour) (l : List Entry) → Run X l → Agreed X l) → ChainsNeverFork
agreement_carries_over h X l r =
    let g = h (answering_as members_refuse_more X) (accepted_only X l) (was_allowed_earlier members_refuse_more X l r).run in
    let s = fun_ext (same_engines engine_behaviour earlier_behaviour members_refuse_more X l) in
    record {
      chains = λ i j c d. subst (λ (es : ℕ → Engine). Prefix (es i) (es j) ⊎ Prefix (es j) (es i)) s (g.chains i j c d);
      committees = λ i j q c d. subst (λ (es : ℕ → Engine). Knows (es i) q → Knows (es j) q → (m : ℕ) → weights (es i) q m ≡ weights (es j) q m) s (g.committees i j q c d);
    }
