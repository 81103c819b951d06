-- Sequences of calls on one engine: each call gets what the last one left.
use Rattle.std.specs.Prelude.{◌≡◌, List, [], ◌∷◌, ◌≢◌}
use Rattle.terms.specs.declared.Member.{Member}
use Rattle.terms.specs.declared.sheet.Sheet.{Sheet}
use Rattle.engine.specs.Calls.{Call, opens, InRange}
use Rattle.engine.specs.Engine.{Engine, refusal_for, after}

-- the engine after a list of calls, newest first
unfoldable pub after_calls : Engine → List Call → Engine
after_calls e [] = e
after_calls e (c ∷ l) = after (after_calls e l) c

-- with any values of their types
abbrev pub AllInRange : List Call → Type 0
AllInRange [] = Unit {0}
AllInRange (c ∷ l) = InRange c × AllInRange l

-- the call is no accepted open
abbrev pub NoOpen : Engine → Call → Type 0
NoOpen e c = (own : Member) (sheet : Sheet) → c ≡ opens own sheet → refusal_for e c ≢ 0

-- no open among them is accepted
abbrev pub NoOpens : Engine → List Call → Type 0
NoOpens e [] = Unit {0}
NoOpens e (c ∷ l) = NoOpen (after_calls e l) c × NoOpens e l

-- an accepted open, on whatever state and table were there
pub record Opening : Type 0 where
  pub before : Engine
  pub own : Member
  pub sheet : Sheet
  pub accepted : refusal_for before (opens own sheet) ≡ 0

-- the engine after it
abbrev pub after_opening : Opening → Engine
after_opening x = after x.before (opens x.own x.sheet)
