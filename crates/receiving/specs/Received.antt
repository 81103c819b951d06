-- The listing bytes that a guest has read from its serial port since it was reset, over lists of requests (docs/RULES.md, "Serial ports").
use Rattle.std.specs.Prelude.{◌≡◌, if◌then◌else◌, not, ◌&&◌, List, [], ◌∷◌, ◌++◌, ℕ, ◌==◌, nat_le, nat_lt, length}
use Rattle.base.specs.Options.{if_there}
use Rattle.ports.specs.Uart.{Port}
use Rattle.state.specs.Answers.{if_accepted}
use Rattle.serial.specs.Calls.{read, write, PortCall, access, reset}
use Rattle.serial.specs.Serial.{listing, port_at, register}
use Rattle.engine.specs.Calls.{Call, opens, port}
use Rattle.engine.specs.Engine.{Engine, refusal_for}
use Rattle.engine.specs.Sequences.{after_calls}
use Rattle.submissions.specs.Submissions.{calls_of}
use Rattle.submissions.specs.Requests.{Request, submission_of, InRangeThen, after_requests}

-- the listing of an engine's chain, without a closing ok; port g; and what it shows at offset o
abbrev pub listing_in : Engine → List ℕ
listing_in e = listing e.state e.table

abbrev pub port_on : Engine → ℕ → Port
port_on e g = port_at e.state e.table g

abbrev pub shown : Engine → ℕ → ℕ → ℕ
shown e g o = register e.state e.table g o

-- ---- what is read, told by answers and listings alone

module _ (e : Engine) (g : ℕ) where
  -- port g, whose bytes were l: a reset empties them; a read of offset 0 adds what it answers, while bit 7 of offset 3 is clear and the listing has more bytes than l
  abbrev pub asked_of : PortCall → List ℕ → List ℕ
  asked_of (access h (read o)) l =
      if h == g
      && (o == 0 && (not (nat_le 128 (shown e g 3)) && nat_lt (length l) (length (listing_in e))))
      then l ++ (shown e g o ∷ []) else l
  asked_of (access h (write o b)) l = l
  asked_of (reset h) l = if h == g then [] else l

  -- an accepted call: an opening resets every port
  abbrev pub accepted_bytes : Call → List ℕ → List ℕ
  accepted_bytes (opens own sheet) l = []
  accepted_bytes (port x) l = asked_of x l
  accepted_bytes c l = l

  -- a refused one reads nothing
  unfoldable pub bytes_after : Call → List ℕ → List ℕ
  bytes_after c l = if_accepted (refusal_for e c) (accepted_bytes c l) l

-- after calls on e, newest first
unfoldable pub bytes_then : Engine → ℕ → List Call → List ℕ → List ℕ
bytes_then e g [] l = l
bytes_then e g (c ∷ m) l = bytes_after (after_calls e m) g c (bytes_then e g m l)

-- after requests on e, newest first, from nothing on: those of the calls that each counts as
unfoldable pub received : Engine → ℕ → List Request → List ℕ
received e g [] = []
received e g (x ∷ l) = let d = after_requests e l in
    if_there (submission_of d x) (received e g l)
    (λ s. bytes_then d g (calls_of d s) (received e g l))

-- ---- the claims

-- with any values of their types
abbrev pub AskedInRange : Engine → List Request → Type 0
AskedInRange e [] = Unit {0}
AskedInRange e (x ∷ l) = InRangeThen (after_requests e l) (submission_of (after_requests e l) x)
    × AskedInRange e l

-- the bytes l that were read from port g are a prefix of the listing, the port has counted them, and a byte waits exactly while there are more
pub record Served (e : Engine) (g : ℕ) (l : List ℕ) : Type 0 where
  pub prefix : (more : List ℕ) × (listing_in e ≡ l ++ more)
  pub counted : (port_on e g).read ≡ length l
  pub waiting : shown e g 5 ≡ (if nat_lt (length l) (length (listing_in e)) then 97 else 96)
