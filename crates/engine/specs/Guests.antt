-- What a guest may ask of an engine, and the right that it needs (docs/RULES.md, "Rights").
use Rattle.std.specs.Prelude.{ℕ}
use Rattle.terms.specs.declared.Transaction.{Transaction}
use Rattle.terms.specs.declared.Body.{Body}
use Rattle.terms.specs.declared.Proposal.{Proposal}
use Rattle.terms.specs.declared.Certificate.{Certificate}
use Rattle.terms.specs.declared.rights.Right.{Right}
use Rattle.terms.specs.declared.rights.Right.TheVariants.{Propose, Sign, Drive, Read}
use Rattle.serial.specs.Calls as serial
use Rattle.serial.specs.Calls.{Access}
use Rattle.engine.specs.Calls as host
use Rattle.engine.specs.Calls.{Aside, Call}

-- the calls of a host but open and the reset of a port; a batch is asked for beside them
pub data GuestCall : Type 0 where
  propose : Body → GuestCall
  -- previous set
  draw : ℕ → GuestCall
  -- a transaction for the caller's own queue
  enqueue : Transaction → GuestCall
  endorse : Proposal → GuestCall
  -- endorsers
  certify : ℕ → GuestCall
  accept : Certificate → GuestCall
  advance : GuestCall
  commit : GuestCall
  -- to the caller's own port
  access : Access → GuestCall
  aside : Aside → GuestCall

-- propose, with drawing and adding to one's own queue; sign: endorse, certify, accept; drive: advance, commit; read: reads, preview and lists, and accesses to one's own port
abbrev pub needs : GuestCall → Right
needs (propose b) = Propose
needs (draw v) = Propose
needs (enqueue x) = Propose
needs (endorse p) = Sign
needs (certify d) = Sign
needs (accept c) = Sign
needs advance = Drive
needs commit = Drive
needs (access a) = Read
needs (aside x) = Read

-- and of a batch, which is signing
abbrev pub batch_needs : Right
batch_needs = Sign

-- the host's own call that does the same for caller c
abbrev pub as_host : ℕ → GuestCall → Call
as_host c (propose b) = host.propose b
as_host c (draw v) = host.draw v
as_host c (enqueue x) = host.enqueue c x
as_host c (endorse p) = host.endorse p
as_host c (certify d) = host.certify d
as_host c (accept x) = host.accept x
as_host c advance = host.advance
as_host c commit = host.commit
as_host c (access a) = host.port (serial.access c a)
as_host c (aside x) = host.aside x
