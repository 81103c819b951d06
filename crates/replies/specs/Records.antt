-- What a record does: the engine after it, and the lines that answer it.
use Rattle.std.specs.Prelude.{◌≡◌, if◌then◌else◌, List, ◌++◌, ℕ, ◌+◌, ◌*◌, length, ◌==◌, Option, None, Some}
use Rattle.terms.specs.declared.sheet.Settings.{Settings}
use Rattle.state.specs.declared.State.{State}
use Rattle.engine.specs.Calls.{Call}
use Rattle.engine.specs.Engine.{Engine, refusal_for, after}
use Rattle.engine.specs.Values.{Value, number, chain, accepted_value}
use Rattle.listing.specs.Lines.{ok_line, count_line, refused_line}
use Rattle.base.specs.Puts.{Puts}
use Rattle.listing.specs.Listing.{chain_lines}

-- the engine of a state and the table lent beside it
abbrev pub engine_of : State → List ℕ → Engine
engine_of s t = record { state = s; table = t }

-- ---- the lines

-- of a value that a call gives: a commit's count, the lines of a chain; no record asks for the other reads, nor for a preview or critical certificates
abbrev pub value_lines : Settings → Value → List ℕ
value_lines S (number n) = count_line n
value_lines S (chain c) = chain_lines S c ++ ok_line
value_lines S c = ok_line

-- of a call: its value, or the number that refuses it
unfoldable pub lines_for : Engine → Call → List ℕ
lines_for e c =
    if refusal_for e c == 0 then value_lines e.state.settings (accepted_value e c)
    else refused_line (refusal_for e c)

-- ---- a record

-- the engine after it; an unreadable one changes nothing
unfoldable pub served_engine : Engine → Option Call → Engine
served_engine e None = e
served_engine e (Some c) = after e c

-- the lines that answer it
unfoldable pub served_lines : Engine → Option Call → List ℕ
served_lines e None = refused_line 24
served_lines e (Some c) = lines_for e c

-- the engine left, and the lines put at the front of a buffer
pub record RecordAnswered (e : Engine) (o : Option Call) (left : Engine) (x y : List ℕ)
    (next : ℕ) : Type 0 where
  pub its_engine : left ≡ served_engine e o
  pub its_lines : Puts x y 0 next (served_lines e o) (length e.table * 9 + 20)
