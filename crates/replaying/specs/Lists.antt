-- A list of a run's calls as words: a head, and then each call of each member in the order in which they are made (docs/PLANT.md, "The calls of a run, made again").
use Rattle.std.specs.Prelude.{◌≡◌, ◌<◌, List, [], ◌∷◌, ◌++◌, ℕ, length, All}
use Rattle.batching.specs.declared.rows.CertificateRecord.{CertificateRecord}
use Rattle.batching.specs.Rows.{record_words}
use Rattle.replaying.specs.declared.calls.HostCall.{HostCall}
use Rattle.replaying.specs.declared.calls.HostCall.TheVariants as host
use Rattle.replaying.specs.declared.calls.GuestCall.{GuestCall}
use Rattle.replaying.specs.declared.calls.GuestCall.TheVariants as guest
use Rattle.replaying.specs.declared.calls.Call.{Call}
use Rattle.replaying.specs.declared.calls.Call.TheVariants.{Host, Guest}
use Rattle.replaying.specs.declared.calls.Entry.{Entry}
use Rattle.replaying.specs.declared.failure.Failure.{Failure}
use Rattle.replaying.specs.declared.failure.Failure.TheVariants.{Damaged, Memory}
use Rattle.replaying.specs.declared.heads.Head.{Head}
use Rattle.replaying.specs.declared.heads.TheConstants.{MARK}

-- the words of certificates in a row
unfoldable pub rows_words : List CertificateRecord → List ℕ
rows_words [] = []
rows_words (e ∷ l) = record_words e ++ rows_words l

-- a row, its length first
abbrev pub row_words : List CertificateRecord → List ℕ
row_words l = length l ∷ rows_words l

-- a call of the host's own: its number, and what is handed in
abbrev pub host_words : HostCall → List ℕ
host_words (host.Propose body) = 0 ∷ body
host_words (host.Draw v) = 1 ∷ v ∷ []
host_words (host.Enqueue g x) = 2 ∷ g ∷ x
host_words (host.Endorse proposal) = 3 ∷ proposal
host_words (host.Certify endorsers) = 4 ∷ endorsers ∷ []
host_words (host.Accept certificate) = 5 ∷ certificate
host_words (host.Batch row) = 6 ∷ row_words row.items
host_words host.Advance = 7 ∷ []
host_words host.Commit = 8 ∷ []
host_words (host.PortReset g) = 9 ∷ g ∷ []

-- a guest's call: its number, the caller, and what is handed in
abbrev pub guest_words : ℕ → GuestCall → List ℕ
guest_words c (guest.Propose body) = 16 ∷ c ∷ body
guest_words c (guest.Draw v) = 17 ∷ c ∷ v ∷ []
guest_words c (guest.Enqueue x) = 18 ∷ c ∷ x
guest_words c (guest.Endorse proposal) = 19 ∷ c ∷ proposal
guest_words c (guest.Certify endorsers) = 20 ∷ c ∷ endorsers ∷ []
guest_words c (guest.Accept certificate) = 21 ∷ c ∷ certificate
guest_words c (guest.Batch row) = 22 ∷ c ∷ row_words row.items
guest_words c guest.Advance = 23 ∷ c ∷ []
guest_words c guest.Commit = 24 ∷ c ∷ []
guest_words c (guest.PortRead o) = 25 ∷ c ∷ o ∷ []
guest_words c (guest.PortWrite o b) = 26 ∷ c ∷ o ∷ b ∷ []

abbrev pub call_words : Call → List ℕ
call_words (Host x) = host_words x
call_words (Guest c x) = guest_words c x

-- whose call it is, and the call
abbrev pub entry_words : Entry → List ℕ
entry_words e = e.who ∷ call_words e.call

unfoldable pub entries_words : List Entry → List ℕ
entries_words [] = []
entries_words (e ∷ l) = entry_words e ++ entries_words l

-- ---- how long each array is, and that a byte is below 256: no value of these types is other, and so words are of one list

abbrev pub RecordWhole : CertificateRecord → Type 0
RecordWhole e = length e.body ≡ 14

abbrev pub HostWhole : HostCall → Type 0
HostWhole (host.Propose body) = length body ≡ 14
HostWhole (host.Enqueue g x) = length x ≡ 3
HostWhole (host.Endorse proposal) = length proposal ≡ 16
HostWhole (host.Accept certificate) = length certificate ≡ 17
HostWhole (host.Batch row) = All RecordWhole row.items
HostWhole c = Unit {0}

abbrev pub GuestWhole : GuestCall → Type 0
GuestWhole (guest.Propose body) = length body ≡ 14
GuestWhole (guest.Enqueue x) = length x ≡ 3
GuestWhole (guest.Endorse proposal) = length proposal ≡ 16
GuestWhole (guest.Accept certificate) = length certificate ≡ 17
GuestWhole (guest.Batch row) = All RecordWhole row.items
GuestWhole (guest.PortWrite o b) = b < 256
GuestWhole c = Unit {0}

abbrev pub CallWhole : Call → Type 0
CallWhole (Host x) = HostWhole x
CallWhole (Guest c x) = GuestWhole x

-- ---- the whole list

-- the head: a mark, how many members there are, the rights that all open with, and the words of their sheet
abbrev pub head_words : Head → List ℕ
head_words h = MARK ∷ h.members ∷ h.rights ∷ h.sheet

-- the words of a whole list
abbrev pub list_words : Head → List Entry → List ℕ
list_words h l = head_words h ++ entries_words l

-- the words w are those of the head h and of the list of calls l, each of one of the head's members, whose arrays have their lengths and whose bytes are below 256
pub record Listed (w : List ℕ) (h : Head) (l : List Entry) : Type 0 where
  pub words : w ≡ list_words h l
  pub sheet : length h.sheet ≡ 40
  pub callers : All (λ e. e.who < h.members) l
  pub whole : All (λ e. CallWhole e.call) l

-- ---- words that begin with none of these

abbrev pub NoRow : List ℕ → Type 0
NoRow w = (l : List CertificateRecord) (r : List ℕ) → All RecordWhole l
    → w ≡ row_words l ++ r → ⊥

-- behind the number of a call, and behind the caller of a guest's
abbrev pub NoHost : ℕ → List ℕ → Type 0
NoHost n w = (c : HostCall) (r : List ℕ) → HostWhole c
    → n ∷ w ≡ host_words c ++ r → ⊥

abbrev pub NoGuest : ℕ → ℕ → List ℕ → Type 0
NoGuest n g w = (c : GuestCall) (r : List ℕ) → GuestWhole c
    → n ∷ g ∷ w ≡ guest_words g c ++ r → ⊥

abbrev pub NoEntry : ℕ → List ℕ → Type 0
NoEntry members w = (e : Entry) (r : List ℕ) → e.who < members → CallWhole e.call
    → w ≡ entry_words e ++ r → ⊥

abbrev pub NoHead : List ℕ → Type 0
NoHead w = (h : Head) (r : List ℕ) → length h.sheet ≡ 40
    → w ≡ head_words h ++ r → ⊥

-- and words that are no calls of so many members to their end, or no list
abbrev pub NoEntries : ℕ → List ℕ → Type 0
NoEntries members w = (l : List Entry) → All (λ e. e.who < members) l
    → All (λ e. CallWhole e.call) l → w ≡ entries_words l → ⊥

abbrev pub NoList : List ℕ → Type 0
NoList w = (h : Head) (l : List Entry) → Listed w h l → ⊥

-- why words are not read: nothing of the kind stands there, or memory
abbrev pub Unread : Type 0 → Failure → Type 0
Unread none Damaged = none
Unread none Memory = Unit {0}
Unread none f = ⊥
