-- Every call of an engine, with the values that are handed in.
use Rattle.std.specs.Prelude.{ℕ, ◌<◌}
use Rattle.terms.specs.declared.Member.{Member}
use Rattle.terms.specs.declared.Round.{Round}
use Rattle.terms.specs.declared.Transaction.{Transaction}
use Rattle.terms.specs.declared.Body.{Body}
use Rattle.terms.specs.declared.Proposal.{Proposal}
use Rattle.terms.specs.declared.Certificate.{Certificate}
use Rattle.terms.specs.declared.sheet.Sheet.{Sheet}
use Rattle.serial.specs.Calls.{PortCall, PortInRange}

-- the calls that leave state and table as they are: the reads, the preview of a commit, the certificates that it hangs on, what blocks in a row hold, and the listing of the chain
pub data Aside : Type 0 where
  committee : Round → Aside
  share : Member → Round → Aside
  -- what a bond of the member by an amount would do to the shares
  effect : Member → Round → ℕ → Aside
  certificate : Member → Round → Aside
  -- by number from 1
  block : ℕ → Aside
  -- what a commit would add; the number of words of the lent list
  preview : ℕ → Aside
  -- the certificates that a commit hangs on; the number of words of the lent list
  critical : ℕ → Aside
  -- what blocks hold: of the n after the first m, m and n; the number of words of the lent list
  blocks : ℕ → ℕ → ℕ → Aside
  listing : Aside

pub data Call : Type 0 where
  -- own number, sheet
  opens : Member → Sheet → Call
  -- previous set and transactions; author and round are one's own
  propose : Body → Call
  endorse : Proposal → Call
  -- endorsers
  certify : ℕ → Call
  accept : Certificate → Call
  advance : Call
  commit : Call
  -- a guest, and a transaction for its queue
  enqueue : ℕ → Transaction → Call
  -- previous set; the transactions are drawn from guests' queues
  draw : ℕ → Call
  -- an access to a guest's serial port, or a reset of it
  port : PortCall → Call
  aside : Aside → Call

-- a set of members is a 16-bit number, what is written to a port a byte; all other values are any
abbrev pub InRange : Call → Type 0
InRange (propose b) = b.previous < 65536
InRange (endorse p) = p.body.previous < 65536
InRange (certify d) = d < 65536
InRange (accept c) = (c.proposal.body.previous < 65536) × (c.endorsers < 65536)
InRange (draw v) = v < 65536
InRange (port x) = PortInRange x
InRange c = Unit {0}
