-- The premises can be met with draws, batches and guests' requests, and over the library's words: members 0, 1 and 2 are correct and 3 is faulty, and a guest of member 0 may propose, another sign.
-- What a guest fills into its queue member 0 draws, proposes, and has in the block that 0 and 1 make.
use Rattle.std.specs.Prelude.{◌≡◌, if◌then◌else◌, List, [], ◌∷◌, ℕ, nat_lt, ◌==◌, replicate}
use Rattle.terms.specs.declared.Transaction.{Transaction}
use Rattle.terms.specs.declared.Transaction.TheVariants as transaction
use Rattle.terms.specs.declared.Body.{Body}
use Rattle.terms.specs.declared.Certificate.{Certificate}
use Rattle.terms.specs.Bodies.{body_of}
use Rattle.terms.specs.Proposals.{Content}
use Rattle.draw.specs.Draw.{drawn_body}
use Rattle.engine.specs.Guests.{propose, draw, enqueue, endorse, certify, accept, advance, commit}
use Rattle.nonforking.specs.Statement.{listed, weights, Members, Entry, engine_after, Run, engine_behaviour}
use Rattle.nonforking.specs.Witness.{settings, entries, AreAnswered, by, refused, at, of, listed_at}
use Rattle.submissions.specs.Submissions.{engine_then, unrolled}
use Rattle.submissions.specs.Requests.{guest, asks, engine_asked, submitted, host_result, result_of}
use Rattle.library.specs.Hosts.{Hosts, members, calls_in, AllTyped}
use Rattle.witnesses.specs.Lines.{Line, library_calls, requests, submissions, answered, own, for_guest, allowed, barred, in_batch, batched, batch_asked, batch_allowed, batch_barred}

-- ---- the members

-- the words of the sheet: lookback 1, ceiling 4, weight 3 for members 0 and 1, and nothing else written
abbrev pub sheet_words : List ℕ
sheet_words = 1 ∷ 1 ∷ 1 ∷ 4 ∷ 0 ∷ 0 ∷ 1 ∷ 3 ∷ 1 ∷ 3 ∷ replicate 30 0

-- of member 0 guest 0 may propose and guest 1 sign; no guest of another member may do anything
abbrev pub rights : ℕ → ℕ
rights i = if i == 0 then 513 else 0

-- ---- bodies and certificates

abbrev pub bond : Transaction
bond = transaction.Bond (record { 0 = 0 }) 5

abbrev pub seven : Transaction
seven = transaction.Entry 7

abbrev pub with : ℕ → Body
with previous = body_of previous []

abbrev pub certificate : ℕ → ℕ → Body → ℕ → Certificate
certificate a r b endorsers = record { proposal = at a r b; endorsers = endorsers }

-- ---- the lines, newest first

-- guest 0 of member 0 fills in a bond
abbrev pub first : List Line
first = allowed 0 0 (enqueue bond) ∷ []

-- guest 5 of member 0 may not propose
abbrev pub filling : List Line
filling = barred 0 5 (enqueue bond) ∷ first

-- guest 0 draws; what guest 3 is given then waits
abbrev pub drawing : List Line
drawing = for_guest 0 3 (enqueue seven) ∷ allowed 0 0 (draw 0) ∷ filling

abbrev pub signing : List Line
signing =
    own 1 (certify 9) ∷ own 0 (certify 10)
    ∷ own 1 (endorse (at 3 1 (with 0))) ∷ own 0 (endorse (at 3 1 (with 0)))
    ∷ allowed 0 1 (endorse (at 1 1 (with 0)))
    ∷ own 1 (endorse (at 0 1 (body_of 0 (bond ∷ [])))) ∷ own 1 (propose (with 0)) ∷ drawing

-- a certificate of round 2 by member 3, which names one that is not held, then two of round 1: they are tried by rising round
abbrev pub offered : List Certificate
offered = certificate 3 2 (with 7) 3 ∷ certificate 3 1 (with 0) 3 ∷ certificate 1 1 (with 0) 9 ∷ []

abbrev pub offered_to_1 : List Certificate
offered_to_1 = certificate 0 1 (body_of 0 (bond ∷ [])) 10 ∷ certificate 3 1 (with 0) 3 ∷ []

-- guest 1 of member 0 hands them in at once
abbrev pub offering : List Line
offering = batch_allowed 0 1 offered (refused 11 0 (of 3 2 (with 7) 3) ∷ by 0 (of 3 1 (with 0) 3)
    ∷ by 0 (of 1 1 (with 0) 9) ∷ []) ∷ signing

-- and guest 1 of member 1 may not, so its host does
abbrev pub round1 : List Line
round1 = in_batch 1 offered_to_1 (by 1 (of 3 1 (with 0) 3)
    ∷ by 1 (of 0 1 (body_of 0 (bond ∷ [])) 10) ∷ []) ∷ batch_barred 1 1 offered_to_1 ∷ offering

-- in rounds 2 and 3 members 0 and 1 alone sign; the host of member 0 draws what guest 3 was given
abbrev pub round2 : List Line
round2 =
    own 1 (accept (certificate 0 2 (body_of 11 (seven ∷ [])) 2))
    ∷ own 0 (accept (certificate 1 2 (with 11) 1)) ∷ own 1 (certify 1)
    ∷ own 0 (certify 2) ∷ own 0 (endorse (at 1 2 (with 11)))
    ∷ own 1 (endorse (at 0 2 (body_of 11 (seven ∷ []))))
    ∷ own 1 (propose (with 11)) ∷ own 0 (draw 11) ∷ own 1 advance ∷ own 0 advance
    ∷ round1

abbrev pub run : List Line
run =
    own 1 commit ∷ own 0 commit
    ∷ own 1 (accept (certificate 0 3 (with 3) 2)) ∷ own 0 (accept (certificate 1 3 (with 3) 1))
    ∷ own 1 (certify 1)
    ∷ own 0 (certify 2) ∷ own 0 (endorse (at 1 3 (with 3))) ∷ own 1 (endorse (at 0 3 (with 3)))
    ∷ own 1 (propose (with 3)) ∷ own 0 (propose (with 3)) ∷ own 1 advance ∷ own 0 advance
    ∷ round2

-- the single calls
abbrev pub calls : List Line → List Entry
calls l = entries (answered l)

-- the block that members 0 and 1 list, where the transactions l were drawn
abbrev pub made : List Transaction → List (ℕ × List Content)
made l = (2, listed_at 1 1 0 [] ∷ listed_at 3 1 0 [] ∷ listed_at 0 1 0 l ∷ listed_at 1 2 11 [] ∷ [])
    ∷ []

-- ---- what is so

-- each has opened with those settings and rights
abbrev pub OpenedSo : Members engine_behaviour → Type 0
OpenedSo X = (X.settings ≡ settings) × ((i : ℕ) → (X.sheet i).rights.0 ≡ rights i)

-- single calls, draws among them: guest 0 has filled in the transactions l
pub record MetWithADraw (X : Members engine_behaviour) (l : List Transaction) : Type 0 where
  pub correct : (i : ℕ) → X.correct i ≡ nat_lt i 3
  pub opened : OpenedSo X
  pub premises : Run X (calls run)
  -- each call is answered with the number that stands at it
  pub answers : AreAnswered X (answered run)
  -- the draw proposes them
  pub drawn : drawn_body (engine_after X (calls filling) 0).state
      (engine_after X (calls filling) 0).table 0 ≡ body_of 0 l
  -- and they stand in the block
  pub listed_by_0 : listed (engine_after X (calls run) 0) ≡ made l
  pub listed_by_1 : listed (engine_after X (calls run) 1) ≡ made l
  -- where they change a committee
  pub weight_before : weights (engine_after X (calls run) 1) 3 0 ≡ 3
  pub weight_after : weights (engine_after X (calls run) 1) 4 0 ≡ 8

-- batches among the submissions: one gets the answers l, each at its place in the row
pub record MetWithBatches (X : Members engine_behaviour) (l : List ℕ) : Type 0 where
  pub correct : (i : ℕ) → X.correct i ≡ nat_lt i 3
  pub opened : OpenedSo X
  pub premises : Run X (unrolled X (submissions run))
  -- it counts as three accepts, of which the last is refused, the other batch as two
  pub counts : unrolled X (submissions run) ≡ calls run
  pub answers : AreAnswered X (answered run)
  pub by_place : (host_result (engine_then X (submissions signing) 0) (batched offered)).answers ≡ l

-- guests' requests among the hosts': who lacks the right is refused with n
pub record MetWithGuests (X : Members engine_behaviour) (n : ℕ) : Type 0 where
  pub correct : (i : ℕ) → X.correct i ≡ nat_lt i 3
  pub opened : OpenedSo X
  pub premises : Run X (unrolled X (submitted X (requests run)))
  -- all that others ask is submitted
  pub submits : submitted X (requests run) ≡ submissions run
  pub answers : AreAnswered X (answered run)
  -- the enqueue of guest 5 of member 0, and the batch of guest 1 of member 1
  pub barred_enqueue : (result_of (engine_asked X (requests first) 0)
      (guest 5 (asks (enqueue bond)))).refusal ≡ n
  pub barred_batch : (result_of (engine_asked X (requests offering) 1)
      (batch_asked 1 offered_to_1)).refusal ≡ n

-- over the words of hosts: they count as the calls l
pub record MetOverWords (X : Hosts) (l : List Entry) : Type 0 where
  pub correct : (i : ℕ) → X.correct i ≡ nat_lt i 3
  pub handed : (i : ℕ) → (X.sheet i ≡ sheet_words) × (X.rights i ≡ rights i)
  pub typed : AllTyped (library_calls run)
  pub premises : Run (members X) (calls_in X (library_calls run))
  pub counts : calls_in X (library_calls run) ≡ l
  pub answers : AreAnswered (members X) (answered run)
