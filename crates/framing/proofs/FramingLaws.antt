-- What a step tells of the whole stream, whatever comes later: steps read a stream as its definition does, wherever the pieces part.
use Rattle.std.proofs.Common.{◌≡◌, refl, ap, ◌∙◌, Bool, true, false, cond, ◌||◌, List, [], ◌∷◌, ◌++◌, map, ℕ, ◌+◌, ◌≤◌, ◌<◌, arith, drop, take, length, length-append, leb, ltb, lt-ltb, le-ltb, le-leb}
use Rattle.std.specs.Prelude.{Option, None, Some}
use Rattle.base.proofs.Words.{and-false, or-true, dec_lt, lt-leb}
use Rattle.framing.specs.declared.Event.TheVariants.{Record, Unreadable}
use Rattle.framing.specs.declared.Step.{Step}
use Rattle.framing.specs.Streams.{StreamRecord, records_of, fitting, readables, due_of, due, until_end, has_end, after_end}
use Rattle.framing.proofs.StreamLaws.{records-step, until-take, ended-short, after_none, short-ended, whole_open, open_whole}
use Rattle.framing.specs.Framing.{remaining, telling, passed, ended_step, open_step, step_of, is_begun, Waits}
use Rattle.framing.proofs.ChunkLaws.{EndsIn, ends_in, after-passed, until-long, passed-most, passed-within}

-- the step, by whether a CRLF is at hand
pub step_ended : (b : Bool) (s : List ℕ) → length (until_end s) < length s → step_of b s ≡ ended_step b (length (until_end s))
unfolding step_of
step_ended b s h = rw (short-ended s h) refl

pub step_open : (b : Bool) (s : List ℕ) → length s ≤ length (until_end s) → step_of b s ≡ open_step b s
unfolding step_of
step_open b s h = rw (whole_open s h) refl

due-step : (o : Bool) (s : List ℕ) → 0 < length s → due o s ≡ due_of o (record { bytes = until_end s; ended = has_end s } ∷ records_of (after_end s))
unfolding due
due-step o [] h = absurd (omega arith)
due-step o (x ∷ s) h = rw (records-step x s) refl

-- the first record of the stream l and then z, where a CRLF is at hand, and where l is too long without one
first_ended : (o : Bool) (l z : List ℕ) (p : EndsIn l z) → 0 < length l → due o (l ++ z) ≡ fitting (record { bytes = until_end l; ended = true }) ∷ due o (drop (length (until_end l) + 2) l ++ z)
unfolding due due_of
first_ended o l z p h =
    due-step o (l ++ z) (rw (length-append l z) (omega arith))
    ∙ rw (p.until, p.has, p.after) refl

first-long : (o : Bool) (l z : List ℕ) → has_end l ≡ false → 1024 ≤ length l → due o (l ++ z) ≡ None ∷ due o (after_end (drop (passed l) l ++ z))
unfolding fitting due due_of
first-long o l z e h =
    let u = until-long l z e in
    due-step o (l ++ z) (rw (length-append l z) (omega arith))
    ∙ rw (lt-leb (length (until_end (l ++ z))) 1022 (omega arith), and-false (has_end (l ++ z)), after-passed l z e) (by (has_end (l ++ z)) refl)
  where
    by : (b : Bool) → has_end (l ++ z) ≡ b
        → cond (b || (leb 1024 (length (until_end (l ++ z))) || o)) (None ∷ due_of o (records_of (after_end (drop (passed l) l ++ z)))) (due_of o (records_of (after_end (drop (passed l) l ++ z)))) ≡ None ∷ due_of o (records_of (after_end (drop (passed l) l ++ z)))
    by true q = refl
    by false q =
        let k : 1024 ≤ length (until_end (l ++ z)) = rw (open_whole (l ++ z) q, length-append l z) (omega arith) in
        rw (le-leb 1024 (length (until_end (l ++ z))) k) refl

-- what a step tells, and after it what it leaves
told : Bool → List ℕ → List ℕ → Step → List (Option (List ℕ))
told o l z r = telling r.event (take r.length l) (remaining o r.skipping (drop r.next l ++ z))

ended-step : (o b : Bool) (l z : List ℕ) → has_end l ≡ true → remaining o b (l ++ z) ≡ told o l z (ended_step b (length (until_end l)))
unfolding told remaining fitting
ended-step o true l z e = rw (ends_in l z e).after refl
ended-step o false l z e =
    first_ended o l z (ends_in l z e) (let h = ended-short l e in omega arith)
    ∙ go (leb (length (until_end l)) 1022) (until_end l) (due o (drop (length (until_end l) + 2) l ++ z)) (until-take l)
  where
    go : (b : Bool) (u : List ℕ) (m : List (Option (List ℕ))) → u ≡ take (length (until_end l)) l → cond b (Some u) None ∷ m ≡ telling (cond b Record Unreadable) (take (length (until_end l)) l) m
    go true u m q = rw q refl
    go false u m q = refl

open_step_told : (o b : Bool) (l z : List ℕ) → has_end l ≡ false → remaining o b (l ++ z) ≡ told o l z (open_step b l)
unfolding told remaining
open_step_told o true l z e = rw (after-passed l z e) refl
open_step_told o false l z e = go (dec_lt (length l) 1024)
  where
    go : Dec (length l < 1024) → remaining o false (l ++ z) ≡ told o l z (open_step false l)
    go (yes h) = rw (lt-ltb (length l) 1024 h) refl
    go (no h) = let k : 1024 ≤ length l = omega arith in rw (le-ltb (length l) 1024 k) (first-long o l z e k)

-- whatever comes after the bytes at hand, what was left before a step is what it tells, and then what is left after it
pub step-told : (o b : Bool) (l z : List ℕ) → remaining o b (l ++ z) ≡ telling (step_of b l).event (take (step_of b l).length l) (remaining o (step_of b l).skipping (drop (step_of b l).next l ++ z))
unfolding step_of told
step-told o b l z = go (has_end l) refl
  where
    go : (x : Bool) → has_end l ≡ x → remaining o b (l ++ z) ≡ told o l z (cond x (ended_step b (length (until_end l))) (open_step b l))
    go true e = ended-step o b l z e
    go false e = open_step_told o b l z e

pub step_waits : (b : Bool) (l : List ℕ) → (step_of b l).next ≡ 0 → Waits l
unfolding step_of
step_waits b l h = go (has_end l) refl b h
  where
    go : (x : Bool) → has_end l ≡ x → (b : Bool) → (cond x (ended_step b (length (until_end l))) (open_step b l)).next ≡ 0 → Waits l
    go true e b h = absurd (omega arith)
    go false e true h = let p = passed-most l in record { few = omega arith; open_ended = e }
    go false e false h = short (dec_lt (length l) 1024) h
      where
        short : Dec (length l < 1024) → (open_step false l).next ≡ 0 → Waits l
        short (yes k) h = record { few = k; open_ended = e }
        short (no k) h =
            let m : 1024 ≤ length l = omega arith in
            let q = rw (le-ltb (length l) 1024 m) at h in
            let p = passed-most l in
            absurd (omega arith)

-- a step stays within the bytes at hand
pub record StepWithin (skipping : Bool) (l : List ℕ) : Type 0 where
  pub length_to : (step_of skipping l).length ≤ length l
  pub next-to : (step_of skipping l).next ≤ length l

pub step-within : (skipping : Bool) (l : List ℕ) → StepWithin skipping l
unfolding step_of
step-within skipping l = by (has_end l) refl skipping
  where
    by : (x : Bool) → has_end l ≡ x → (b : Bool) → StepWithin b l
    by true e b = let h = ended-short l e in record { length_to = rw e (omega arith); next-to = rw e (omega arith) }
    by false e true = record { length_to = rw e (omega arith); next-to = rw e (passed-within l) }
    by false e false = go (ltb (length l) 1024) refl
      where
        go : (c : Bool) → ltb (length l) 1024 ≡ c → StepWithin false l
        go true q = record { length_to = rw (e, q) (omega arith); next-to = rw (e, q) (omega arith) }
        go false q = record { length_to = rw (e, q) (omega arith); next-to = rw (e, q) (passed-within l) }

-- at the end of input, bytes without a CRLF are an unreadable record, if there are any
pub last-told : (b : Bool) (l : List ℕ) → has_end l ≡ false → remaining true b l ≡ cond (is_begun b l) (None ∷ []) []
unfolding remaining due due_of records_of fitting
last-told true l e = rw (after_none l e) refl
last-told false [] e = refl
last-told false (x ∷ l) e = due-step true (x ∷ l) (omega arith) ∙ rw (e, after_none (x ∷ l) e, or-true (leb 1024 (length (until_end (x ∷ l))))) refl

-- and before it, few bytes without a CRLF are nothing yet
pub none_yet : (b : Bool) (l : List ℕ) → Waits l → remaining false b l ≡ []
unfolding remaining due due_of records_of
none_yet true l w = rw (after_none l w.open_ended) refl
none_yet false [] w = refl
none_yet false (x ∷ l) w = due-step false (x ∷ l) (omega arith) ∙ rw (w.open_ended, after_none (x ∷ l) w.open_ended, open_whole (x ∷ l) w.open_ended, lt-leb 1024 (length (x ∷ l)) w.few) refl

-- of a stream that is over, all its records are to be answered
pub due-over : (s : List ℕ) → due true s ≡ readables s
unfolding due due_of readables
due-over s = go (records_of s)
  where
    go : (rs : List StreamRecord) → due_of true rs ≡ map fitting rs
    go [] = refl
    go (r ∷ rs) = rw (or-true (leb 1024 (length r.bytes)), or-true r.ended) (ap (λ (l : List (Option (List ℕ))). fitting r ∷ l) (go rs))
