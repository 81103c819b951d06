-- What a call of a list is among the library's calls, and the form of its answer. 64 answers are lent for a batch.
use Rattle.std.specs.Prelude.{ℕ, ◌*◌, replicate}
use Rattle.terms.specs.declared.rights.Right.{Right}
use Rattle.terms.specs.declared.rights.Right.TheVariants as right
use Rattle.serial.specs.Calls as serial
use Rattle.hosting.specs.Calls.{Result, plain, packed}
use Rattle.hosting.specs.HostCalls as hosts
use Rattle.hosting.specs.GuestForms as guests
use Rattle.library.specs.Calls as library
use Rattle.library.specs.Calls.{by_host, by_guest, batch_by_host, batch_by_guest, comes_to}
use Rattle.library.specs.Lists.{Words}
use Rattle.replaying.specs.declared.calls.HostCall.{HostCall}
use Rattle.replaying.specs.declared.calls.HostCall.TheVariants as host
use Rattle.replaying.specs.declared.calls.GuestCall.{GuestCall}
use Rattle.replaying.specs.declared.calls.GuestCall.TheVariants as guest
use Rattle.replaying.specs.declared.calls.Call.{Call}
use Rattle.replaying.specs.declared.calls.Call.TheVariants.{Host, Guest}

abbrev pub told_host : HostCall → library.LibraryCall
told_host (host.Propose body) = by_host (hosts.HostCall.propose body)
told_host (host.Draw v) = by_host (hosts.HostCall.draw v)
told_host (host.Enqueue g x) = by_host (hosts.HostCall.enqueue g x)
told_host (host.Endorse proposal) = by_host (hosts.HostCall.endorse proposal)
told_host (host.Certify endorsers) = by_host (hosts.HostCall.certify endorsers)
told_host (host.Accept certificate) = by_host (hosts.HostCall.accept certificate)
told_host (host.Batch row) = batch_by_host row.items (replicate 64 0)
told_host host.Advance = by_host hosts.HostCall.advance
told_host host.Commit = by_host hosts.HostCall.commit
told_host (host.PortReset g) = by_host (hosts.HostCall.port (serial.reset g))

abbrev pub told_guest : ℕ → GuestCall → library.LibraryCall
told_guest c (guest.Propose body) = by_guest c (guests.GuestForm.propose body)
told_guest c (guest.Draw v) = by_guest c (guests.GuestForm.draw v)
told_guest c (guest.Enqueue x) = by_guest c (guests.GuestForm.enqueue x)
told_guest c (guest.Endorse proposal) = by_guest c (guests.GuestForm.endorse proposal)
told_guest c (guest.Certify endorsers) = by_guest c (guests.GuestForm.certify endorsers)
told_guest c (guest.Accept certificate) = by_guest c (guests.GuestForm.accept certificate)
told_guest c (guest.Batch row) = batch_by_guest c row.items (replicate 64 0)
told_guest c guest.Advance = by_guest c guests.GuestForm.advance
told_guest c guest.Commit = by_guest c guests.GuestForm.commit
told_guest c (guest.PortRead o) = by_guest c (guests.GuestForm.access (serial.read o))
told_guest c (guest.PortWrite o b) = by_guest c (guests.GuestForm.access (serial.write o b))

abbrev pub told : Call → library.LibraryCall
told (Host x) = told_host x
told (Guest c x) = told_guest c x

-- the right that a guest's call needs
abbrev pub right_of : GuestCall → Right
right_of (guest.Propose body) = right.Propose
right_of (guest.Draw v) = right.Propose
right_of (guest.Enqueue x) = right.Propose
right_of (guest.Endorse proposal) = right.Sign
right_of (guest.Certify endorsers) = right.Sign
right_of (guest.Accept certificate) = right.Sign
right_of (guest.Batch row) = right.Sign
right_of guest.Advance = right.Drive
right_of guest.Commit = right.Drive
right_of (guest.PortRead o) = right.Read
right_of (guest.PortWrite o b) = right.Read

-- ---- what is answered

-- what a call comes to, on the words x
abbrev pub comes_of : Words → library.LibraryCall → Result
comes_of x c = comes_to x.state x.table c

-- the form of its answer: a number alone, or a value beside it
abbrev pub answer_of_host : HostCall → Result → ℕ
answer_of_host host.Commit = packed
answer_of_host c = plain

abbrev pub answer_of_guest : GuestCall → Result → ℕ
answer_of_guest guest.Commit = packed
answer_of_guest (guest.PortRead o) = packed
answer_of_guest c = plain

abbrev pub answer_of : Call → Result → ℕ
answer_of (Host x) = answer_of_host x
answer_of (Guest c x) = answer_of_guest x

-- refused with this number
abbrev pub refused_guest : GuestCall → ℕ → ℕ
refused_guest guest.Commit n = n * 4294967296
refused_guest (guest.PortRead o) n = n * 4294967296
refused_guest c n = n
