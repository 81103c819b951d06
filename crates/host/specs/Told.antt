-- What a program's call of the library is among the library's calls. Its out stretches are zeros: previews have room for 64 entries, lists of critical certificates for 32 places, those of blocks for 32 certificates; 64 answers are lent for a batch.
use Rattle.std.specs.Prelude.{List, [], ℕ, replicate}
use Rattle.serial.specs.Calls as serial
use Rattle.engine.specs.Calls as engine
use Rattle.engine.specs.Calls.{Aside}
use Rattle.hosting.specs.Calls.{Result, plain, packed}
use Rattle.hosting.specs.HostCalls as hosts
use Rattle.hosting.specs.GuestForms as guests
use Rattle.library.specs.Calls as library
use Rattle.library.specs.Calls.{by_host, by_guest, batch_by_host, batch_by_guest, comes_to}
use Rattle.library.specs.Lists.{Words}
use Rattle.host.specs.declared.runs.View.{View}
use Rattle.host.specs.declared.runs.View.TheVariants.{Committee, Share, Effect, Certificate, Block, Preview, Critical, BlockRows}
use Rattle.host.specs.declared.runs.HostCall.{HostCall}
use Rattle.host.specs.declared.runs.HostCall.TheVariants as host
use Rattle.host.specs.declared.runs.GuestForm.{GuestForm}
use Rattle.host.specs.declared.runs.GuestForm.TheVariants as guest
use Rattle.host.specs.declared.runs.LibraryCall.{LibraryCall}
use Rattle.host.specs.declared.runs.LibraryCall.TheVariants.{Host, Guest}

-- the read, and how long its out stretch is
abbrev pub read_of : View → Aside
read_of (Committee r) = engine.committee r
read_of (Share m r) = engine.share (record { 0 = m }) r
read_of (Effect m r a) = engine.effect (record { 0 = m }) r a
read_of (Certificate m r) = engine.certificate (record { 0 = m }) r
read_of (Block k) = engine.block k
read_of Preview = engine.preview 192
read_of Critical = engine.critical 64
read_of (BlockRows k n) = engine.blocks k n 576

abbrev pub out_of : View → List ℕ
out_of (Committee r) = replicate 16 0
out_of (Share m r) = []
out_of (Effect m r a) = replicate 33 0
out_of (Certificate m r) = replicate 18 0
out_of (Block k) = []
out_of Preview = replicate 192 0
out_of Critical = replicate 64 0
out_of (BlockRows k n) = replicate 576 0

abbrev pub told_host : HostCall → library.LibraryCall
told_host (host.Open own sheet rights) = by_host (hosts.HostCall.opens own sheet.now rights)
told_host (host.Propose body) = by_host (hosts.HostCall.propose body.now)
told_host (host.Endorse proposal) = by_host (hosts.HostCall.endorse proposal.now)
told_host (host.Certify endorsers) = by_host (hosts.HostCall.certify endorsers)
told_host (host.Accept certificate) = by_host (hosts.HostCall.accept certificate.now)
told_host host.Advance = by_host hosts.HostCall.advance
told_host host.Commit = by_host hosts.HostCall.commit
told_host (host.Enqueue g x) = by_host (hosts.HostCall.enqueue g x.now)
told_host (host.Draw v) = by_host (hosts.HostCall.draw v)
told_host (host.PortReset g) = by_host (hosts.HostCall.port (serial.reset g))
told_host (host.Read v) = by_host (hosts.HostCall.aside (read_of v) (out_of v))
told_host (host.Batch row) = batch_by_host row.now (replicate 64 0)

abbrev pub told_guest : ℕ → GuestForm → library.LibraryCall
told_guest c (guest.Propose body) = by_guest c (guests.GuestForm.propose body.now)
told_guest c (guest.Draw v) = by_guest c (guests.GuestForm.draw v)
told_guest c (guest.Enqueue x) = by_guest c (guests.GuestForm.enqueue x.now)
told_guest c (guest.Endorse proposal) = by_guest c (guests.GuestForm.endorse proposal.now)
told_guest c (guest.Certify endorsers) = by_guest c (guests.GuestForm.certify endorsers)
told_guest c (guest.Accept certificate) = by_guest c (guests.GuestForm.accept certificate.now)
told_guest c guest.Advance = by_guest c guests.GuestForm.advance
told_guest c guest.Commit = by_guest c guests.GuestForm.commit
told_guest c (guest.PortRead o) = by_guest c (guests.GuestForm.access (serial.read o))
told_guest c (guest.PortWrite o b) = by_guest c (guests.GuestForm.access (serial.write o b))
told_guest c (guest.Read v) = by_guest c (guests.GuestForm.aside (read_of v) (out_of v))
told_guest c (guest.Batch row) = batch_by_guest c row.now (replicate 64 0)

abbrev pub told : LibraryCall → library.LibraryCall
told (Host x) = told_host x
told (Guest c x) = told_guest c x

-- ---- what is answered

-- what a call comes to, on the words x
abbrev pub comes_of : Words → library.LibraryCall → Result
comes_of x c = comes_to x.state x.table c

-- the form of its answer: a number alone, or a value beside it
abbrev pub answer_of_read : View → Result → ℕ
answer_of_read (Committee r) = plain
answer_of_read (Share m r) = packed
answer_of_read (Effect m r a) = plain
answer_of_read (Certificate m r) = plain
answer_of_read (Block k) = packed
answer_of_read Preview = packed
answer_of_read Critical = packed
answer_of_read (BlockRows k n) = packed

abbrev pub answer_of_host : HostCall → Result → ℕ
answer_of_host host.Commit = packed
answer_of_host (host.Read v) = answer_of_read v
answer_of_host c = plain

abbrev pub answer_of_guest : GuestForm → Result → ℕ
answer_of_guest guest.Commit = packed
answer_of_guest (guest.PortRead o) = packed
answer_of_guest (guest.Read v) = answer_of_read v
answer_of_guest c = plain

abbrev pub answer_of : LibraryCall → Result → ℕ
answer_of (Host x) = answer_of_host x
answer_of (Guest c x) = answer_of_guest x
