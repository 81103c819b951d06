-- Guests' calls over the words that a host lends: the complete answer, and what the stretches hold afterwards, refusals included (docs/RULES.md, "Rights").
use Rattle.std.specs.Prelude.{◌≡◌, Bool, if◌then◌else◌, List, ◌≢◌, ℕ, ◌==◌}
use Rattle.terms.specs.declared.Member.{Member}
use Rattle.terms.specs.declared.sheet.Rights.{Rights}
use Rattle.terms.specs.declared.sheet.Sheet.{Sheet}
use Rattle.terms.specs.declared.rights.Right.{Right}
use Rattle.terms.specs.Rights.{caller_refusal}
use Rattle.engine.specs.Calls.{Call, opens}
use Rattle.engine.specs.Guests.{GuestCall, needs, as_host}
use Rattle.words.specs.declared.places.TheConstants.{STATE_RIGHTS}
use Rattle.words.specs.Words.{word}
use Rattle.hosting.specs.Calls.{Result, refused, result_of}

-- the word of a state for its rights, whatever else its words are; where there are fewer words nobody has a right
abbrev pub rights_in : List ℕ → Rights
rights_in w = record { 0 = word w STATE_RIGHTS }

-- the number that refuses caller c who needs right r, 0 for none
abbrev pub caller_number : List ℕ → ℕ → Right → ℕ
caller_number w c r = caller_refusal (rights_in w) r c

-- the state's words w, the table t and the out stretch o that are lent, and the caller's number c
module _ (w t o : List ℕ) (c : ℕ) where
  -- 26 and 29, before anything else; then x, what the host's own call comes to
  unfoldable pub as_guest : Right → Result → Result
  as_guest r x = if caller_number w c r == 0 then x else refused w t o (caller_number w c r)

  -- every call and read of a guest; b tells whether the words that are handed in can be read
  abbrev pub guest_result : Bool → GuestCall → Result
  guest_result b k = as_guest (needs k) (result_of w t o b (as_host c k))

-- on both states the same number, no value, and no word changes
pub record RefusedAlike (w t o v u p : List ℕ) (c : ℕ) (r : Right) (x y : Result) : Type 0 where
  pub first : as_guest w t o c r x ≡ refused w t o (caller_number w c r)
  pub second : as_guest v u p c r y ≡ refused v u p (caller_number w c r)

-- the call is no open
abbrev pub NoOpening : Call → Type 0
NoOpening k = (own : Member) (sheet : Sheet) → k ≢ opens own sheet
