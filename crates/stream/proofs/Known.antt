-- A run of a reader and a writer whose bytes are known.
use Rattle.std.proofs.Common.{◌≡◌, Bool, true, false, List, [], ◌∷◌, ◌++◌, ℕ, Option, None, IfSome, sym, ◌∙◌, ap, subst, append_assoc, append-nil}
use Rattle.std.specs.Io.KnownBytes.{Appends}
use Rattle.std.proofs.KnownBytes.{Consumes-whole}
use Rattle.framing.specs.Streams.{due, readables}
use Rattle.framing.proofs.FramingLaws.{due-over}
use Rattle.stream.specs.Answers.{after_all, answers}
use Rattle.stream.specs.Talk.{Event, came, read_failed, went, flushed, write_failed, SoFar, start, then, since, Partly, EndsAt, Ends, Ran}
use Rattle.stream.specs.Known.{read_in, went_in, Moved, AddsPart}
use Rattle.stream.specs.declared.ended.Ended.{Ended}
use Rattle.stream.specs.declared.ended.Ended.TheVariants.{Input, ReadFailed, WriteFailed, TooLong}

-- what a talk came to is what was read in it and what went out
pub since-read : (s : SoFar) (l : List Event) → (since s l).read ≡ s.read ++ read_in l
since-read s [] = sym (append-nil s.read)
since-read s (came b ∷ l) = since-read (then s (came b)) l ∙ append_assoc s.read b (read_in l)
since-read s (read_failed why ∷ l) = since-read (then s (read_failed why)) l
since-read s (went b ∷ l) = since-read (then s (went b)) l
since-read s (flushed ∷ l) = since-read (then s flushed) l
since-read s (write_failed why ∷ l) = since-read (then s (write_failed why)) l

pub since-written : (s : SoFar) (l : List Event) → (since s l).written ≡ s.written ++ went_in l
since-written s [] = sym (append-nil s.written)
since-written s (came b ∷ l) = since-written (then s (came b)) l
since-written s (read_failed why ∷ l) = since-written (then s (read_failed why)) l
since-written s (went b ∷ l) = since-written (then s (went b)) l ∙ append_assoc s.written b (went_in l)
since-written s (flushed ∷ l) = since-written (then s flushed) l
since-written s (write_failed why ∷ l) = since-written (then s (write_failed why)) l

module _ {E : Type 0} (after : E → Option (List ℕ) → E) (answer : E → Option (List ℕ) → List ℕ) (e : E) where
  -- however it ended, what went out is a first part of what was owed
  ends-partly : (r : Ended) (s : SoFar) (left : E) → Ends after answer e r s left → Partly after answer e s
  ends-partly Input s left h = ([], append-nil s.written ∙ h.delivered.all)
  ends-partly (ReadFailed why) s left h = ([], append-nil s.written ∙ h.delivered.all)
  ends-partly (WriteFailed why) s left h = h.partly
  ends-partly TooLong s left h = h.partly

  module _ {P : Type 0} (talk : P → List Event → P → Type 0) (input output : P → Option (List ℕ)) (moves : (p q : P) (l : List Event) → talk p l q → Moved (input p) (input q) (output p) (output q) l)
      {left : E} {p q : P} {r : Ended} (h : Ran after answer e talk left p q r) where
    moved : Moved (input p) (input q) (output p) (output q) h.events
    moved = moves p q h.events h.talked

    pub adds_part : AddsPart after answer e (input p) (input q) (output p) (output q)
    adds_part =
        let s = since start h.events in
        let m = ends-partly r s left h.ends in
        record {
          read = read_in h.events;
          taken = moved.taken;
          put = went_in h.events;
          given = moved.given;
          over = s.over;
          rest = m.0;
          parts = ap (λ (l : List ℕ). l ++ m.0) (sym (since-written start h.events)) ∙ m.1 ∙ ap (λ (l : List ℕ). answers after answer e (due s.over l)) (since-read start h.events);
        }

    -- at the end of the input
    module _ (n : r ≡ Input) where
      ended : EndsAt after answer e None (since start h.events) left
      ended = rw n at h.ends

      all-told : due (since start h.events).over (since start h.events).read ≡ readables (read_in h.events)
      all-told = ap (λ (b : Bool). due b (since start h.events).read) ended.over ∙ ap (due true) (since-read start h.events) ∙ due-over (read_in h.events)

      -- what is so of all that was read is so of the whole input
      of-whole : (Q : List ℕ → Type 0) → Q (read_in h.events) → IfSome (input p) Q
      of-whole Q x = Consumes-whole (input p) (input q) (read_in h.events) Q moved.taken
          (moved.at_end start (λ a. let z : false ≡ true = a.over in cc) (record { over = ended.over; whole = ended.read })) x

      pub adds_whole : IfSome (input p) (λ bytes. Appends (output p) (output q) (answers after answer e (readables bytes)))
      adds_whole = of-whole (λ bytes. Appends (output p) (output q) (answers after answer e (readables bytes)))
          (subst (Appends (output p) (output q)) (sym (since-written start h.events) ∙ ended.delivered.all ∙ ap (answers after answer e) all-told) moved.given)

      pub leaves_whole : IfSome (input p) (λ bytes. left ≡ after_all after answer e (readables bytes))
      leaves_whole = of-whole (λ bytes. left ≡ after_all after answer e (readables bytes)) (ended.done ∙ ap (after_all after answer e) all-told)
