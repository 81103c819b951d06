-- The library's functions as hosts call them: the request that its words are read as, and what comes of it.
use Rattle.std.specs.Prelude.{Bool, true, if◌then◌else◌, ◌&&◌, List, ℕ, length, nat_le, Option, Some, None}
use Rattle.serial.specs.Calls.{PortInRange, AccessInRange}
use Rattle.engine.specs.Guests.{batch_needs, as_host}
use Rattle.submissions.specs.Submissions.{one, batch}
use Rattle.submissions.specs.Requests.{asks, asks_batch, Request, host, guest}
use Rattle.hosting.specs.Calls.{Result, Use, writes, rewrites, accesses, reads, use_of}
use Rattle.hosting.specs.HostCalls as hosts
use Rattle.hosting.specs.HostCalls.{HostCall, port, host_reads, host_in, host_out}
use Rattle.hosting.specs.Guested.{as_guest}
use Rattle.hosting.specs.GuestForms.{GuestForm, access, guest_reads, guest_in, guest_out, comes_to_guest}
use Rattle.batching.specs.declared.rows.CertificateRecord.{CertificateRecord}
use Rattle.batching.specs.Rows.{row_of}
use Rattle.batching.specs.Batched.{batch_result}

-- ---- what is handed in

-- to any of the library's functions; a batch is handed a row of records, and the answers that are lent
pub data LibraryCall : Type 0 where
  by_host : HostCall → LibraryCall
  by_guest : ℕ → GuestForm → LibraryCall
  batch_by_host : List CertificateRecord → List ℕ → LibraryCall
  batch_by_guest : ℕ → List CertificateRecord → List ℕ → LibraryCall

-- a host's call hands in values of their types: what is written to a port is a byte
abbrev pub HostTyped : HostCall → Type 0
HostTyped (port x) = PortInRange x
HostTyped c = Unit {0}

-- so does a guest's form
abbrev pub GuestTyped : GuestForm → Type 0
GuestTyped (access a) = AccessInRange a
GuestTyped c = Unit {0}

-- so does any call: nothing but the byte of a port's write is asked, every other word may be any
abbrev pub Typed : LibraryCall → Type 0
Typed (by_host x) = HostTyped x
Typed (by_guest c x) = GuestTyped x
Typed (batch_by_host row answers) = Unit {0}
Typed (batch_by_guest c row answers) = Unit {0}

-- ---- what its words are read as

-- there is room in the out stretch o
abbrev pub has_room : Use → List ℕ → Bool
has_room writes o = true
has_room rewrites o = true
has_room (accesses x) o = true
has_room (reads n) o = nat_le n (length o)

-- the request that it is read as, none where its words cannot be read or the out stretch is too short
unfoldable pub request_in : LibraryCall → Option Request
request_in (by_host x) =
    if has_room (use_of (host_in x)) (host_out x) && host_reads x then Some (host (one (host_in x)))
    else None
request_in (by_guest c x) =
    if has_room (use_of (as_host c (guest_in x))) (guest_out x) && guest_reads x
    then Some (guest c (asks (guest_in x)))
    else None
request_in (batch_by_host row answers) = Some (host (batch (row_of row) answers))
request_in (batch_by_guest c row answers) = Some (guest c (asks_batch (row_of row) answers))

-- ---- what comes of it

-- on the words w of a state and the table t; so the contracts of the functions say
abbrev pub comes_to : List ℕ → List ℕ → LibraryCall → Result
comes_to w t (by_host x) = hosts.comes_to w t x
comes_to w t (by_guest c x) = comes_to_guest w t c x
comes_to w t (batch_by_host row answers) = batch_result w t row answers
comes_to w t (batch_by_guest c row answers) =
    as_guest w t answers c batch_needs (batch_result w t row answers)
