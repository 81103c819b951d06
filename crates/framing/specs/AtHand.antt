-- The bytes at hand of a stream, and what a step through them tells.
use Rattle.std.specs.Prelude.{◌≡◌, Bool, List, ◌∷◌, ◌++◌, ℕ, ◌<◌, length, drop, Option, None, Some}
use Rattle.std.specs.Option.{option_map}
use Rattle.framing.specs.Framing.{remaining, Waits}
use Rattle.framing.specs.declared.records.Framed.{Framed}
use Rattle.framing.specs.declared.records.Framed.TheVariants.{Readable, Unreadable}

pub record AtHand : Type 0 where
  pub hand : List ℕ
  -- a record that was answered goes on
  pub skipping : Bool

-- what is left to answer of the stream, where `more` comes after the bytes at hand, and the input is over then or not
abbrev pub left : Bool → AtHand → List ℕ → List (Option (List ℕ))
left over h more = remaining over h.skipping (h.hand ++ more)

-- the bytes of the record that was found, none where it is unreadable
abbrev pub record_now : Framed → Option (List ℕ)
record_now (Readable bytes) = Some bytes.now
record_now Unreadable = None

abbrev pub told : Option Framed → Option (Option (List ℕ))
told r = option_map record_now r

-- what was found comes first
abbrev pub first_told : Option (Option (List ℕ)) → List (Option (List ℕ)) → List (Option (List ℕ))
first_told None l = l
first_told (Some o) l = o ∷ l

-- from h to h' the record r was found, whatever comes after the bytes at hand
pub record Tells (h : AtHand) (r : Option (Option (List ℕ))) (h' : AtHand) : Type 0 where
  pub whole : (over : Bool) (more : List ℕ) → left over h more ≡ first_told r (left over h' more)
  -- no byte between is lost
  pub taken : ℕ
  pub rest : h'.hand ≡ drop taken h.hand
  pub fewer : (o : Option (List ℕ)) → r ≡ Some o → length h'.hand < length h.hand
  pub waits : r ≡ None → Waits h'.hand
