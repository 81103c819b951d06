-- What is claimed of guests over lists of the library's calls: the moments of draws, what a caller that lacks rights is answered, and the bytes that a port has given.
use Rattle.std.specs.Prelude.{◌≡◌, false, if◌then◌else◌, not, ◌&&◌, List, [], ◌∷◌, ◌++◌, ◌≢◌, ℕ, ◌==◌, nat_le, nat_lt, length}
use Rattle.base.specs.Options.{if_there}
use Rattle.terms.specs.Rights.{may}
use Rattle.state.specs.Answers.{if_accepted}
use Rattle.serial.specs.Calls.{read, write, PortCall, access, reset}
use Rattle.engine.specs.Guests.{needs, batch_needs}
use Rattle.fairness.specs.Fairness.{Moment}
use Rattle.fairness.specs.Guests.{request_moments}
use Rattle.receiving.specs.Received.{listing_in, shown}
use Rattle.hosting.specs.Calls.{refused}
use Rattle.hosting.specs.Guested.{rights_in}
use Rattle.hosting.specs.HostCalls.{opens, port}
use Rattle.hosting.specs.GuestForms as forms
use Rattle.hosting.specs.GuestForms.{guest_in}
use Rattle.library.specs.Calls.{LibraryCall, by_host, by_guest, batch_by_host, batch_by_guest, request_in}
use Rattle.library.specs.Lists.{Words, engine_of, after_call, after_list, lent_out}
use Rattle.wordclaims.specs.Claims.{answer_on}

-- ---- draws

-- the moments of a call on the words x: those of the request that it is read as; none where its words cannot be read, since that changes nothing
abbrev pub call_moments : Words → LibraryCall → List Moment
call_moments x c = if_there (request_in c) [] (request_moments (engine_of x))

-- of a list, oldest first
unfoldable pub moments_left : Words → List LibraryCall → List Moment
moments_left x [] = []
moments_left x (c ∷ l) = call_moments x c ++ moments_left (after_call x c) l

-- ---- rights

-- caller c makes the call, a form of its own or a batch, and lacks the right that it needs by the words x
abbrev pub Barred : Words → ℕ → LibraryCall → Type 0
Barred x c (by_host y) = ⊥
Barred x c (by_guest k y) = (k ≡ c) × (may (rights_in x.state) (needs (guest_in y)) c ≡ false)
Barred x c (batch_by_host row answers) = ⊥
Barred x c (batch_by_guest k row answers) =
    (k ≡ c) × (may (rights_in x.state) batch_needs c ≡ false)

-- each call of a list
abbrev pub AllBarred : Words → ℕ → List LibraryCall → Type 0
AllBarred x c [] = Unit {0}
AllBarred x c (y ∷ l) = Barred x c y × AllBarred x c l

-- on both words the call is refused with the same number, with no value, and every word of state, table and what is lent for it stays
pub record Alike (x y : Words) (c : LibraryCall) : Type 0 where
  pub number : ℕ
  pub refuses : number ≢ 0
  pub first : answer_on x c ≡ refused x.state x.table (lent_out c) number
  pub second : answer_on y c ≡ refused y.state y.table (lent_out c) number

-- each call of a list, newest first, on the words that stand then
abbrev pub AllAlike : Words → Words → List LibraryCall → Type 0
AllAlike x y [] = Unit {0}
AllAlike x y (c ∷ l) = Alike (after_list x l) (after_list y l) c × AllAlike x y l

-- of a list made on both, all answers are alike, and both words are at its end as they were
pub record SeesNothing (x y : Words) (l : List LibraryCall) : Type 0 where
  pub alike : AllAlike x y l
  pub first : after_list x l ≡ x
  pub second : after_list y l ≡ y

-- ---- serial ports

module _ (x : Words) (g : ℕ) where
  -- what has been read from port g, l before, after what is asked of a port was answered with the value v: a reset empties it; a read of offset 0 adds v, while bit 7 of offset 3 is clear and the listing has more bytes than l
  abbrev pub with_answer : PortCall → ℕ → List ℕ → List ℕ
  with_answer (access h (read o)) v l =
      if h == g
      && (o == 0 && (not (nat_le 128 (shown (engine_of x) g 3))
      && nat_lt (length l) (length (listing_in (engine_of x)))))
      then l ++ (v ∷ [])
      else l
  with_answer (access h (write o b)) v l = l
  with_answer (reset h) v l = if h == g then [] else l

  -- after an accepted call with the value v: an open resets every port, and of the others only those read that ask a port
  abbrev pub accepted_then : LibraryCall → ℕ → List ℕ → List ℕ
  accepted_then (by_host (opens own sheet rights)) v l = []
  accepted_then (by_host (port a)) v l = with_answer a v l
  accepted_then (by_guest k (forms.GuestForm.access a)) v l = with_answer (access k a) v l
  accepted_then c v l = l

  -- a refused one reads nothing
  abbrev pub bytes_then : LibraryCall → List ℕ → List ℕ
  bytes_then c l = if_accepted (answer_on x c).refusal (accepted_then c (answer_on x c).value l) l

-- the bytes read from port g by a list of calls, newest first, from nothing on: what the library answered
unfoldable pub bytes_answered : Words → ℕ → List LibraryCall → List ℕ
bytes_answered x g [] = []
bytes_answered x g (c ∷ l) = bytes_then (after_list x l) g c (bytes_answered x g l)
