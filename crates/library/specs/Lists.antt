-- Lists of the library's calls: each gets the words that the last one left. From an accepted open they give the engine that the requests lead to.
use Rattle.std.specs.Prelude.{◌≡◌, ◌≢◌, true, List, [], ◌∷◌, ℕ, Option, Some, None}
use Rattle.base.specs.Options.{if_there}
use Rattle.open.specs.Open.{closed_state}
use Rattle.engine.specs.Engine.{Engine, after}
use Rattle.submissions.specs.Requests as requests
use Rattle.submissions.specs.Requests.{Request}
use Rattle.words.specs.States.{state_reads}
use Rattle.hosting.specs.Calls.{Result, engine_in, value_word, out_over, refused}
use Rattle.hosting.specs.HostCalls.{opens, host_in, host_out}
use Rattle.hosting.specs.GuestForms.{guest_out}
use Rattle.library.specs.Calls.{LibraryCall, by_host, by_guest, batch_by_host, batch_by_guest, Typed, request_in, comes_to}

-- what a host keeps between calls
pub record Words : Type 0 where
  pub state : List ℕ
  pub table : List ℕ

-- the engine that they give
abbrev pub engine_of : Words → Engine
engine_of x = engine_in x.state x.table

-- after a call
abbrev pub after_call : Words → LibraryCall → Words
after_call x c = record {
  state = (comes_to x.state x.table c).state;
  table = (comes_to x.state x.table c).table;
}

-- after a list of calls, newest first
unfoldable pub after_list : Words → List LibraryCall → Words
after_list x [] = x
after_list x (c ∷ l) = after_call (after_list x l) c

-- the requests that their words are read as
unfoldable pub requests_in : List LibraryCall → List Request
requests_in [] = []
requests_in (c ∷ l) = if_there (request_in c) (requests_in l) (λ q. q ∷ requests_in l)

abbrev pub AllTyped : List LibraryCall → Type 0
AllTyped [] = Unit {0}
AllTyped (c ∷ l) = Typed c × AllTyped l

-- an accepted open, whatever words were lent
pub record Opening : Type 0 where
  pub before : Words
  pub own : ℕ
  pub sheet : List ℕ
  pub rights : ℕ
  pub accepted : (comes_to before.state before.table (by_host (opens own sheet rights))).refusal ≡ 0

abbrev pub after_opening : Opening → Words
after_opening x = after_call x.before (by_host (opens x.own x.sheet x.rights))

-- the engine's own open, on no state
abbrev pub engine_opened : Opening → Engine
engine_opened x =
    after (record { state = closed_state; table = x.before.table })
    (host_in (opens x.own x.sheet x.rights))

-- the words can be read, and give the engine e
pub record Gives (x : Words) (e : Engine) : Type 0 where
  pub can_read : state_reads x.state ≡ true
  pub gives : engine_of x ≡ e

-- ---- answers

-- the out stretch that is lent; for a batch its answers
abbrev pub lent_out : LibraryCall → List ℕ
lent_out (by_host c) = host_out c
lent_out (by_guest caller c) = guest_out c
lent_out (batch_by_host row answers) = answers
lent_out (batch_by_guest caller row answers) = answers

-- and afterwards, where the engine's answer is a: what its value writes, or the batch's answers
abbrev pub out_given : Words → LibraryCall → requests.Result → List ℕ
out_given x (by_host c) a = out_over x.state x.table (host_out c) a.value
out_given x (by_guest caller c) a = out_over x.state x.table (guest_out c) a.value
out_given x (batch_by_host row answers) a = a.answers
out_given x (batch_by_guest caller row answers) a = a.answers

-- what a call comes to is the engine's whole answer a, with the out stretch o: the number that refuses it, the value, every word that is lent for it
pub record AnsweredAs (r : Result) (a : requests.Result) (o : List ℕ) : Type 0 where
  pub number : r.refusal ≡ a.refusal
  pub word : r.value ≡ value_word a.value
  pub lent : r.out ≡ o

-- it is refused, with no value, and no word changes
pub record RefusedUnread (r : Result) (x : Words) (o : List ℕ) : Type 0 where
  pub number : r.refusal ≢ 0
  pub unchanged : r ≡ refused x.state x.table o r.refusal

-- on the words x, a call that is read as the request q is answered as the engine answers that; what cannot be read is refused
abbrev pub Answered : Words → LibraryCall → Option Request → Type 0
Answered x c None = RefusedUnread (comes_to x.state x.table c) x (lent_out c)
Answered x c (Some q) =
    AnsweredAs (comes_to x.state x.table c) (requests.result_of (engine_of x) q)
    (out_given x c (requests.result_of (engine_of x) q))
