-- What one pass does.
use Rattle.std.specs.Prelude.{◌≡◌, Bool, if◌then◌else◌, List, [], ◌∷◌, ◌++◌, ℕ, ◌<◌, Option, None, Some, Result, Ok, Err, length}
use Rattle.std.specs.Result.{result_unwrap_or}
use Rattle.std_io.specs.declared.io.error.Error.{Error}
use Rattle.framing.specs.Framing.{Waits, is_begun}
use Rattle.framing.specs.AtHand.{AtHand}
use Rattle.stream.specs.Held.{Held}
use Rattle.stream.specs.Talk.{Event, came, read_failed}
use Rattle.stream.specs.Answers.{answers, Found}
use Rattle.stream.specs.Peer.{HandedOut}
use Rattle.stream.specs.declared.ended.Ended.{Ended}
use Rattle.stream.specs.declared.ended.Ended.TheVariants.{WriteFailed}
use Rattle.stream.specs.declared.passed.Passed.{Passed}
use Rattle.stream.specs.declared.passed.Passed.TheVariants.{On, Over, Cut, Lost}

-- a record is begun that was not answered
abbrev pub in_record : AtHand → Bool
in_record h = is_begun h.skipping h.hand

-- the step that brought bytes, none at the end, or nothing
abbrev pub brought : Result ℕ Error → List ℕ → Event
brought (Ok n) b = came b
brought (Err why) b = read_failed why

-- how a run ended, unless a write failed
abbrev pub unless : Option Error → Ended → Ended
unless None ended = ended
unless (Some why) ended = WriteFailed why

-- these bytes behind those at hand
abbrev pub behind : AtHand → List ℕ → AtHand
behind h b = record { hand = h.hand ++ b; skipping = h.skipping }

pub record MoreCame {P : Type 0} (talk : P → List Event → P
    → Type 0) (h : Held) (count : Result ℕ Error) (h' : Held) (p q : P) : Type 0 where
  pub bytes : List ℕ
  pub hand : h'.here ≡ behind h.here bytes
  pub size : h'.size ≡ h.size
  pub talked : talk p (brought count bytes ∷ []) q
  pub counted : length bytes ≡ result_unwrap_or count 0

-- after the answers: nothing where a write failed, or where there was no room for another answer; else, where nothing at hand can be answered, a read
pub data Next {P : Type 0} (talk : P → List Event → P
    → Type 0) (put : List ℕ) (failed : Option Error) (h : AtHand) (p : P) (h' : AtHand)
    (q : P) : Passed → Type 0 where
  lost : (why : Error) → failed ≡ Some why → h' ≡ h → q ≡ p
      → Next talk put failed h p h' q (Lost why)
  full : failed ≡ None → h' ≡ h → q ≡ p → 0 < length put → Next talk put failed h p h' q On
  read_on : failed ≡ None → Waits h.hand → (b : List ℕ) → 0 < length b → h' ≡ behind h b
      → talk p (came b ∷ []) q → Next talk put failed h p h' q On
  at_end : failed ≡ None → Waits h.hand → h' ≡ h → talk p (came [] ∷ []) q
      → Next talk put failed h p h' q Over
  cut_off : failed ≡ None → Waits h.hand → h' ≡ h → (why : Error) → talk p (read_failed why ∷ []) q
      → Next talk put failed h p h' q (Cut why)

module _ {E P : Type 0} (after : E → Option (List ℕ) → E) (answer : E → Option (List ℕ)
    → List ℕ) (most : E → ℕ) (talk : P → List Event → P → Type 0) where
  -- records were found, and all their answers handed out; and then this
  pub record PassDone (e : E) (h : Held) (p : P) (e' : E) (h' : Held) (q : P)
      (passed : Passed) : Type 0 where
    pub found : List (Option (List ℕ))
    pub left : AtHand
    pub finds : Found after answer found e h.here e' left
    pub failed : Option Error
    pub between : P
    pub handed : HandedOut talk p (answers after answer e found) failed between
    pub next : Next talk (answers after answer e found) failed left between h'.here q passed
    pub steady : most e' ≡ most e
    pub size : h'.size ≡ h.size

  -- the record that was begun was answered, as an unreadable one, and nothing else was served
  pub record FinishDone (e : E) (h : Held) (p : P) (left : E) (q : P) (ended result : Ended) : Type
      0 where
    pub failed : Option Error
    pub handed : HandedOut talk p (if in_record h.here then answer e None else []) failed q
    pub state : left ≡ (if in_record h.here then after e None else e)
    pub told : result ≡ unless failed ended
