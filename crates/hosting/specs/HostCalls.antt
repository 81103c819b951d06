-- The functions that hosts call: what each is handed beside the words of state and table, and what comes of it.
use Rattle.std.specs.Prelude.{Bool, true, List, [], ℕ, nat_lt}
use Rattle.serial.specs.Calls.{PortCall}
use Rattle.engine.specs.Calls as engine
use Rattle.engine.specs.Calls.{Aside, Call}
use Rattle.words.specs.Bodies.{lone_body_reads, body_in, lone_triple_reads, triple_in}
use Rattle.words.specs.Proposals.{proposal_reads, proposal_in, certificate_reads, certificate_in}
use Rattle.words.specs.Sheets.{sheet_reads, sheet_in}
use Rattle.hosting.specs.Calls.{Result, result_of}

-- what is handed in: numbers, and words of lists
pub data HostCall : Type 0 where
  -- own number, words of a sheet, rights
  opens : ℕ → List ℕ → ℕ → HostCall
  propose : List ℕ → HostCall
  endorse : List ℕ → HostCall
  certify : ℕ → HostCall
  accept : List ℕ → HostCall
  advance : HostCall
  commit : HostCall
  -- a guest, and the words of a transaction
  enqueue : ℕ → List ℕ → HostCall
  draw : ℕ → HostCall
  port : PortCall → HostCall
  -- with the out stretch that is lent, empty for none
  aside : Aside → List ℕ → HostCall

-- whether the words can be read
abbrev pub host_reads : HostCall → Bool
host_reads (opens own sheet rights) = sheet_reads sheet
host_reads (propose b) = lone_body_reads b
host_reads (endorse p) = proposal_reads p
host_reads (certify d) = nat_lt d 65536
host_reads (accept c) = certificate_reads c
host_reads (enqueue g x) = lone_triple_reads x
host_reads (draw v) = nat_lt v 65536
host_reads c = true

-- the call that they give
abbrev pub host_in : HostCall → Call
host_in (opens own sheet rights) =
    engine.opens (record { 0 = own }) (sheet_in sheet (record { 0 = rights }))
host_in (propose b) = engine.propose (body_in b 0)
host_in (endorse p) = engine.endorse (proposal_in p)
host_in (certify d) = engine.certify d
host_in (accept c) = engine.accept (certificate_in c)
host_in advance = engine.advance
host_in commit = engine.commit
host_in (enqueue g x) = engine.enqueue g (triple_in x)
host_in (draw v) = engine.draw v
host_in (port x) = engine.port x
host_in (aside x o) = engine.aside x

-- the out stretch
abbrev pub host_out : HostCall → List ℕ
host_out (aside x o) = o
host_out c = []

-- what comes of it, on the words w of a state and the table t
abbrev pub comes_to : List ℕ → List ℕ → HostCall → Result
comes_to w t x = result_of w t (host_out x) (host_reads x) (host_in x)
