-- One step through a stream of which only the first bytes are at hand.
use Rattle.std.specs.Prelude.{Bool, true, false, if◌then◌else◌, List, [], ◌∷◌, ℕ, ◌+◌, ◌<◌, length, ◌==◌, nat_le, nat_lt, ◌≡◌}
use Rattle.std.specs.Prelude.{Option, None, Some}
use Rattle.framing.specs.declared.TheConstants.{LONGEST, LONGEST_ENDED}
use Rattle.framing.specs.declared.Event.{Event}
use Rattle.framing.specs.declared.Event.TheVariants.{Nothing, Record, Unreadable}
use Rattle.framing.specs.declared.Step.{Step}
use Rattle.framing.specs.Streams.{due, until_end, has_end, after_end}

-- what is left to answer of a stream; where the start of a record that is too long was answered already, its rest is skipped
unfoldable pub remaining : Bool → Bool → List ℕ → List (Option (List ℕ))
remaining over true s = due over (after_end s)
remaining over false s = due over s

-- what an event adds in front; a record is the first n bytes at hand
abbrev pub telling : Event → List ℕ → List (Option (List ℕ)) → List (Option (List ℕ))
telling Nothing b l = l
telling Record b l = Some b ∷ l
telling Unreadable b l = None ∷ l

-- how many bytes to let go of where there is no CRLF: all but a CR at the end, whose LF may come next
unfoldable pub passed : List ℕ → ℕ
passed [] = 0
passed (x ∷ []) = if x == 13 then 0 else 1
passed (x ∷ y ∷ s) = passed (y ∷ s) + 1

-- a record whose CRLF is n bytes from here
abbrev pub ended_event : Bool → ℕ → Event
ended_event true n = Nothing
ended_event false n = if nat_le n LONGEST then Record else Unreadable

abbrev pub ended_step : Bool → ℕ → Step
ended_step skipping n = record {
  event = ended_event skipping n;
  length = n;
  next = n + 2;
  skipping = false;
}

-- no CRLF at hand: a record that is too long is answered at once, for another more bytes are wanted
abbrev pub open_step : Bool → List ℕ → Step
open_step true s = record { event = Nothing; length = 0; next = passed s; skipping = true }
open_step false s =
    if nat_lt (length s) LONGEST_ENDED
    then record { event = Nothing; length = 0; next = 0; skipping = false }
    else record { event = Unreadable; length = 0; next = passed s; skipping = true }

-- the step from the bytes at hand
unfoldable pub step_of : Bool → List ℕ → Step
step_of skipping s =
    if has_end s then ended_step skipping (length (until_end s))
    else open_step skipping s

-- a record is begun that was not answered
abbrev pub is_begun : Bool → List ℕ → Bool
is_begun true s = false
is_begun false [] = false
is_begun false (x ∷ s) = true

-- a step that stays where it is waits for more bytes: those at hand are few, and have no CRLF
pub record Waits (l : List ℕ) : Type 0 where
  pub few : length l < LONGEST_ENDED
  pub open_ended : has_end l ≡ false
