-- The guests' forms of the functions that hosts call: what each is handed beside the caller and the words of state and table, and what comes of it.
use Rattle.std.specs.Prelude.{Bool, true, List, [], ℕ, nat_lt}
use Rattle.serial.specs.Calls.{Access}
use Rattle.engine.specs.Calls.{Aside}
use Rattle.engine.specs.Guests as guests
use Rattle.engine.specs.Guests.{GuestCall}
use Rattle.words.specs.Bodies.{lone_body_reads, body_in, lone_triple_reads, triple_in}
use Rattle.words.specs.Proposals.{proposal_reads, proposal_in, certificate_reads, certificate_in}
use Rattle.hosting.specs.Calls.{Result}
use Rattle.hosting.specs.Guested.{guest_result}

pub data GuestForm : Type 0 where
  propose : List ℕ → GuestForm
  draw : ℕ → GuestForm
  enqueue : List ℕ → GuestForm
  endorse : List ℕ → GuestForm
  certify : ℕ → GuestForm
  accept : List ℕ → GuestForm
  advance : GuestForm
  commit : GuestForm
  access : Access → GuestForm
  aside : Aside → List ℕ → GuestForm

abbrev pub guest_reads : GuestForm → Bool
guest_reads (propose b) = lone_body_reads b
guest_reads (draw v) = nat_lt v 65536
guest_reads (enqueue x) = lone_triple_reads x
guest_reads (endorse p) = proposal_reads p
guest_reads (certify d) = nat_lt d 65536
guest_reads (accept c) = certificate_reads c
guest_reads c = true

abbrev pub guest_in : GuestForm → GuestCall
guest_in (propose b) = guests.propose (body_in b 0)
guest_in (draw v) = guests.draw v
guest_in (enqueue x) = guests.enqueue (triple_in x)
guest_in (endorse p) = guests.endorse (proposal_in p)
guest_in (certify d) = guests.certify d
guest_in (accept c) = guests.accept (certificate_in c)
guest_in advance = guests.advance
guest_in commit = guests.commit
guest_in (access a) = guests.access a
guest_in (aside x o) = guests.aside x

abbrev pub guest_out : GuestForm → List ℕ
guest_out (aside x o) = o
guest_out c = []

-- what comes of it for caller c, on the words w of a state and the table t
abbrev pub comes_to_guest : List ℕ → List ℕ → ℕ → GuestForm → Result
comes_to_guest w t c x = guest_result w t (guest_out x) c (guest_reads x) (guest_in x)
