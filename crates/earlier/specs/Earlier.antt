-- The rules before an advance asked for a quorum: an advance is refused at the ceiling and nowhere else. Every other call is as it is now.
use Rattle.std.specs.Prelude.{if◌then◌else◌, ◌||◌, [], ◌∷◌, ℕ, ◌==◌, nat_le}
use Rattle.base.specs.Checks.{Checks, refusal}
use Rattle.terms.specs.declared.sheet.Settings.{Settings}
use Rattle.rules.specs.Tests.{MemberView}
use Rattle.state.specs.States.{advanced}
use Rattle.state.specs.View.{view}
use Rattle.state.specs.Refusals.{guarded}
use Rattle.state.specs.Answers.{if_accepted}
use Rattle.engine.specs.Calls.{Call, advance}
use Rattle.engine.specs.Engine.{Engine, refusal_for, after}
use Rattle.nonforking.specs.Statement.{Behaviour, engine_behaviour}
use Rattle.earlier.specs.Refusing.{RefusesMore}

-- 18 at the ceiling
abbrev pub earlier_advancing : (S : Settings) → MemberView S → Checks
earlier_advancing S s = (nat_le S.ceiling s.round, 18) ∷ []

-- x for an advance, y for any other call
abbrev pub of_advance : {A : Type 0} → A → A → Call → A
of_advance x y advance = x
of_advance x y c = y

-- of an advance
abbrev pub earlier_advance_refusal : Engine → ℕ
earlier_advance_refusal e =
    refusal (guarded e.state e.table (earlier_advancing e.state.settings (view e.state e.table)))

abbrev pub earlier_refusal : Engine → Call → ℕ
earlier_refusal e c = of_advance (earlier_advance_refusal e) (refusal_for e c) c

abbrev pub earlier_after : Engine → Call → Engine
earlier_after e c =
    of_advance
    (record e { state = if_accepted (earlier_advance_refusal e) (advanced e.state) e.state })
    (after e c) c

abbrev pub earlier_behaviour : Behaviour
earlier_behaviour = record { refusal = earlier_refusal; after = earlier_after }

-- ---- what is claimed

-- what an advance answered earlier, by what it answers now: 8 and 28 were no refusals
unfoldable pub answered_earlier : ℕ → ℕ
answered_earlier n = if n == 8 || n == 28 then 0 else n

-- members refuse more than before
abbrev pub MembersRefuseMore : Type 0
MembersRefuseMore = RefusesMore engine_behaviour earlier_behaviour
