-- Requests of hosts and of guests: a guest's is refused by the rights that its caller lacks, or it does and answers what the host's own would (docs/RULES.md, "Rights").
use Rattle.std.specs.Prelude.{◌≡◌, true, false, if◌then◌else◌, List, [], ◌∷◌, ℕ, length, ◌==◌, Option, Some, None}
use Rattle.base.specs.Options.{if_there}
use Rattle.agreement.specs.Entries as entries
use Rattle.agreement.specs.Entries.{states}
use Rattle.terms.specs.declared.rights.Right.{Right}
use Rattle.terms.specs.Rights.{may, caller_refusal}
use Rattle.engine.specs.Calls.{opens}
use Rattle.engine.specs.Engine.{Engine, refusal_for, after}
use Rattle.engine.specs.Values.{Value, nothing, value_of}
use Rattle.engine.specs.Sequences.{AllInRange, NoOpen}
use Rattle.engine.specs.Guests.{GuestCall, needs, batch_needs, as_host}
use Rattle.batch.specs.Batch.{Row, batch_refusal, batch_answers}
use Rattle.nonforking.specs.Statement.{Members, engine_after, engine_behaviour, Run, Agreed}
use Rattle.submissions.specs.Submissions.{Submission, one, batch, after_submission, calls_of, unrolled}

-- ---- what is asked

-- of a guest: one of the calls, or a batch with the answers lent for it
pub data Asked : Type 0 where
  asks : GuestCall → Asked
  asks_batch : Row → List ℕ → Asked

abbrev pub needed_for : Asked → Right
needed_for (asks k) = needs k
needed_for (asks_batch row answers) = batch_needs

-- what the host itself would submit for caller c
abbrev pub submitted_by : ℕ → Asked → Submission
submitted_by c (asks k) = one (as_host c k)
submitted_by c (asks_batch row answers) = batch row answers

-- of the host, or of the caller with a number
pub data Request : Type 0 where
  host : Submission → Request
  guest : ℕ → Asked → Request

-- ---- what it comes to

-- the complete answer: the number that refuses, 0 for none, the value, what the answers lent for a batch hold then, and the engine that is left
pub record Result : Type 0 where
  pub refusal : ℕ
  pub value : Value
  pub answers : List ℕ
  pub engine : Engine

-- the answers lent for it; for a call none
abbrev pub lent_answers : Submission → List ℕ
lent_answers (one c) = []
lent_answers (batch row answers) = answers

-- refused with the number n: no value, and nothing changes
abbrev pub refused_with : Engine → Submission → ℕ → Result
refused_with e x n = record { refusal = n; value = nothing; answers = lent_answers x; engine = e }

-- of the host's own
abbrev pub host_result : Engine → Submission → Result
host_result e (one c) = record {
  refusal = refusal_for e c;
  value = value_of e c;
  answers = [];
  engine = after e c;
}
host_result e (batch row answers) =
    record {
      refusal = batch_refusal e.state e.table row.count (length answers);
      value = nothing;
      answers = batch_answers e.state e.table row answers;
      engine = after_submission e (batch row answers);
    }

-- the number that refuses the caller, 0 for none
abbrev pub caller_number : Engine → ℕ → Asked → ℕ
caller_number e c a = caller_refusal e.state.rights (needed_for a) c

-- a guest's: 26 and 29, then what the host's own comes to
unfoldable pub result_of : Engine → Request → Result
result_of e (host x) = host_result e x
result_of e (guest c a) =
    if caller_number e c a == 0 then host_result e (submitted_by c a)
    else refused_with e (submitted_by c a) (caller_number e c a)

-- ---- claims of one request

-- caller c has the right that it needs
abbrev pub Allowed : Engine → ℕ → Asked → Type 0
Allowed e c a = may e.state.rights (needed_for a) c ≡ true

-- caller c lacks it
abbrev pub Lacks : Engine → ℕ → Asked → Type 0
Lacks e c a = may e.state.rights (needed_for a) c ≡ false

-- the answers lent for a request
abbrev pub lent_by : Request → List ℕ
lent_by (host x) = lent_answers x
lent_by (guest c a) = lent_answers (submitted_by c a)

-- the same answers on e and d, the lent ones as they came, and neither changes
pub record AlikeAndUnchanged (e d : Engine) (x : Request) : Type 0 where
  pub same_refusal : (result_of e x).refusal ≡ (result_of d x).refusal
  pub same_value : (result_of e x).value ≡ (result_of d x).value
  pub first_answers : (result_of e x).answers ≡ lent_by x
  pub second_answers : (result_of d x).answers ≡ lent_by x
  pub first_unchanged : (result_of e x).engine ≡ e
  pub second_unchanged : (result_of d x).engine ≡ d

-- ---- claims of lists of requests

-- what is submitted, where the caller is not refused
abbrev pub submission_of : Engine → Request → Option Submission
submission_of e (host x) = Some x
submission_of e (guest c a) = if caller_number e c a == 0 then Some (submitted_by c a) else None

-- the request is no accepted open
abbrev pub NoOpenAsked : Engine → Request → Type 0
NoOpenAsked e (host (one c)) = NoOpen e c
NoOpenAsked e (host (batch row answers)) = Unit {0}
NoOpenAsked e (guest c a) = Unit {0}

-- the engine after a list of requests, newest first
unfoldable pub after_requests : Engine → List Request → Engine
after_requests e [] = e
after_requests e (x ∷ l) = (result_of (after_requests e l) x).engine

-- none of them is an accepted open
abbrev pub NoOpensAsked : Engine → List Request → Type 0
NoOpensAsked e [] = Unit {0}
NoOpensAsked e (x ∷ l) = NoOpenAsked (after_requests e l) x × NoOpensAsked e l

-- what is submitted, if anything, has values of their types
abbrev pub InRangeThen : Engine → Option Submission → Type 0
InRangeThen e None = Unit {0}
InRangeThen e (Some s) = AllInRange (calls_of e s)

module _ (X : Members engine_behaviour) where
  open X use {before, sheet}

  -- member i's engine after a list of requests, newest first
  abbrev pub engine_asked : List (entries.Entry Request) → ℕ → Engine
  engine_asked l i =
      states (λ k e x. (result_of e x).engine)
      (λ k. after (before k) (opens (record { 0 = k }) (sheet k))) l i

  -- what is submitted by them
  unfoldable pub submitted : List (entries.Entry Request) → List (entries.Entry Submission)
  submitted [] = []
  submitted (x ∷ l) =
      if_there (submission_of (engine_asked l x.who) x.call) (submitted l)
      (λ s. record { who = x.who; call = s } ∷ submitted l)

-- chains never fork with guests' requests as entries: premises and claim are those of the calls that they count as, and each member's engine is the one after those
pub record AgreedAsked (X : Members engine_behaviour) (l : List (entries.Entry Request)) : Type 0
  where
    pub agreed : Agreed X (unrolled X (submitted X l))
    pub engines : (i : ℕ) → engine_asked X l i ≡ engine_after X (unrolled X (submitted X l)) i

-- the members' rights are any: they need not be equal
abbrev pub ChainsNeverForkWithGuests : Type 0
ChainsNeverForkWithGuests = (X : Members engine_behaviour) (l : List (entries.Entry Request))
    → Run X (unrolled X (submitted X l)) → AgreedAsked X l
