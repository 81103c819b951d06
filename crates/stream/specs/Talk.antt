-- What goes between a peer and who serves it, in its order.
use Rattle.std.specs.Prelude.{◌≡◌, Bool, true, false, List, [], ◌∷◌, ◌++◌, ℕ, ◌+◌, ◌≤◌, length, Option, None, Some}
use Rattle.std_io.specs.declared.io.error.Error.{Error}
use Rattle.framing.specs.Streams.{due}
use Rattle.stream.specs.Answers.{after_all, answers}
use Rattle.stream.specs.declared.ended.Ended.{Ended}
use Rattle.stream.specs.declared.ended.Ended.TheVariants.{Input, ReadFailed, WriteFailed, TooLong}

pub data Event : Type 0 where
  -- a read that gave these bytes, none at the end of the input
  came : List ℕ → Event
  -- a read that failed, and why
  read_failed : Error → Event
  -- a write that took these bytes
  went : List ℕ → Event
  flushed : Event
  -- a write or a flush that failed, and why
  write_failed : Error → Event

-- what a talk came to
pub record SoFar : Type 0 where
  -- all bytes that came, and those that went out
  pub read : List ℕ
  pub written : List ℕ
  -- a flush came after the last bytes that went out
  pub flushed : Bool
  -- no more bytes come: at the end of the input, or since a read failed, and then why
  pub over : Bool
  pub cut : Option Error
  -- why a write failed, where one did
  pub lost : Option Error

abbrev pub start : SoFar
start = record { read = []; written = []; flushed = true; over = false; cut = None; lost = None }

abbrev pub is_none : List ℕ → Bool
is_none [] = true
is_none (x ∷ l) = false

abbrev pub then : SoFar → Event → SoFar
then s (came b) = record s { read = s.read ++ b; over = is_none b; cut = None }
then s (read_failed why) = record s { over = true; cut = Some why }
then s (went b) = record s { written = s.written ++ b; flushed = false }
then s flushed = record s { flushed = true }
then s (write_failed why) = record s { lost = Some why }

abbrev pub since : SoFar → List Event → SoFar
since s [] = s
since s (x ∷ l) = since (then s x) l

module _ {E : Type 0} (after : E → Option (List ℕ) → E) (answer : E → Option (List ℕ)
    → List ℕ) (e : E) where
  -- the answers to what came so far: to each record that has ended or is too long, and to all where no more bytes come
  abbrev pub owed : SoFar → List ℕ
  owed s = answers after answer e (due s.over s.read)

  -- all of them went out, and nothing else, and they wait in no buffer
  pub record Delivered (s : SoFar) : Type 0 where
    pub all : s.written ≡ owed s
    pub flushed : s.flushed ≡ true

  -- a first part of them went out, and nothing else
  abbrev pub Partly : SoFar → Type 0
  Partly s = (rest : List ℕ) × (s.written ++ rest ≡ owed s)

  -- more is read only where bytes can still come and every answer is delivered
  pub record MayRead (s : SoFar) : Type 0 where
    pub delivered : Delivered s
    pub reading : s.over ≡ false

  abbrev pub May : SoFar → Event → Type 0
  May s (came b) = MayRead s
  May s (read_failed why) = MayRead s
  May s (went b) = Partly (then s (went b))
  May s flushed = Partly s
  May s (write_failed why) = Partly s

  -- each step of the talk is one that may come there, and nothing comes after a write that failed
  abbrev pub Follows : SoFar → List Event → Type 0
  Follows s [] = Unit {0}
  Follows s (x ∷ l) = (s.lost ≡ None) × (May s x × Follows (then s x) l)

  -- the engine left where all that came was answered
  abbrev pub Done : SoFar → E → Type 0
  Done s left = left ≡ after_all after answer e (due s.over s.read)

  -- the engine left: after these records, the first ones of those that came so far; what went out is a first part of the answers to them
  pub record Reached (s : SoFar) (left : E) : Type 0 where
    pub served : List (Option (List ℕ))
    pub waiting : List (Option (List ℕ))
    pub parts : served ++ waiting ≡ due s.over s.read
    pub state : left ≡ after_all after answer e served
    pub unsent : List ℕ
    pub sent : s.written ++ unsent ≡ answers after answer e served

  -- how a talk ended, and the engine that it left
  pub record EndsAt (cut : Option Error) (s : SoFar) (left : E) : Type 0 where
    pub delivered : Delivered s
    pub over : s.over ≡ true
    pub read : s.cut ≡ cut
    pub whole : s.lost ≡ None
    pub done : Done s left

  pub record EndsLost (why : Error) (s : SoFar) (left : E) : Type 0 where
    pub partly : Partly s
    pub lost : s.lost ≡ Some why
    pub reached : Reached s left

  -- so many bytes came and went that a count of them would not fit
  pub record EndsOpen (s : SoFar) (left : E) : Type 0 where
    pub partly : Partly s
    pub many : 18446744073709551615 ≤ length s.read + length s.written
    pub reading : s.over ≡ false
    pub whole : s.lost ≡ None
    pub reached : Reached s left

  abbrev pub Ends : Ended → SoFar → E → Type 0
  Ends Input s left = EndsAt None s left
  Ends (ReadFailed why) s left = EndsAt (Some why) s left
  Ends (WriteFailed why) s left = EndsLost why s left
  Ends TooLong s left = EndsOpen s left

  -- a whole run, and the engine that it left
  pub record Ran {P : Type 0} (talk : P → List Event → P
      → Type 0) (left : E) (p q : P) (ended : Ended) : Type 0 where
    pub events : List Event
    pub talked : talk p events q
    pub follows : Follows start events
    pub ends : Ends ended (since start events) left
