-- What is claimed of the words that lists of the library's calls leave, from an accepted open on: the premises speak of words alone.
use Rattle.std.specs.Prelude.{◌≡◌, true, List, [], ◌∷◌, ◌⊎◌, ◌≢◌, ℕ, ◌<◌, length, get_or}
use Rattle.terms.specs.Proposals.{Content, content_of}
use Rattle.engine.specs.Calls.{certificate}
use Rattle.engine.specs.Guests.{as_host}
use Rattle.nonforking.specs.Statement.{Takes}
use Rattle.words.specs.Proposals.{certificate_reads, certificate_in}
use Rattle.hosting.specs.Calls.{Result}
use Rattle.hosting.specs.HostCalls.{opens, aside, host_in}
use Rattle.hosting.specs.GuestForms.{guest_in}
use Rattle.batching.specs.declared.rows.CertificateRecord.{CertificateRecord}
use Rattle.batching.specs.Rows.{no_record, record_words}
use Rattle.library.specs.Calls.{LibraryCall, by_host, by_guest, batch_by_host, batch_by_guest, comes_to}
use Rattle.library.specs.Lists.{Words, engine_of, after_list, Opening, after_opening}

-- the words after a list of calls
abbrev pub left_after : Opening → List LibraryCall → Words
left_after x l = after_list (after_opening x) l

-- what a call comes to on the words x
abbrev pub answer_on : Words → LibraryCall → Result
answer_on x c = comes_to x.state x.table c

-- ---- opens

-- on the words x the call is no accepted open
abbrev pub NoOpen : Words → LibraryCall → Type 0
NoOpen x c = (own : ℕ) (sheet : List ℕ) (rights : ℕ) → c ≡ by_host (opens own sheet rights)
    → (answer_on x c).refusal ≢ 0

-- no open of a list, newest first, is accepted; each call is asked of the words that stand then
abbrev pub NoOpens : Words → List LibraryCall → Type 0
NoOpens x [] = Unit {0}
NoOpens x (c ∷ l) = NoOpen (after_list x l) c × NoOpens x l

-- ---- certificates that are taken

-- of a row with such answers, a record that is answered 0: its words give the proposal p and the endorsers d
pub record OneTaken (row : List CertificateRecord) (answers : List ℕ) (p : Content)
    (d : ℕ) : Type 0 where
  pub place : ℕ
  pub low : place < length row
  pub answered : get_or answers place 0 ≡ 0
  pub proposal : content_of (certificate_in (record_words (get_or row place no_record))).proposal
      ≡ p
  pub endorsers : (certificate_in (record_words (get_or row place no_record))).endorsers ≡ d

-- what an accepted call takes, alone, for a guest or in a batch with such answers: a certify the own proposal, an accept what its words give
abbrev pub Brings : Words → LibraryCall → List ℕ → Content → ℕ → Type 0
Brings x (by_host c) answers p d = Takes (engine_of x) (host_in c) p d
Brings x (by_guest k c) answers p d = Takes (engine_of x) (as_host k (guest_in c)) p d
Brings x (batch_by_host row lent) answers p d = OneTaken row answers p d
Brings x (batch_by_guest k row lent) answers p d = OneTaken row answers p d

-- on the words x the call is accepted, and takes the certificate of the proposal p with the endorsers d
abbrev pub Took : Words → LibraryCall → Content → ℕ → Type 0
Took x c p d = ((answer_on x c).refusal ≡ 0) × Brings x c (answer_on x c).out p d

-- a call of the list, newest first, took it, and no open was accepted since
abbrev pub TookSince : Words → List LibraryCall → Content → ℕ → Type 0
TookSince x [] p d = ⊥
TookSince x (c ∷ l) p d = Took (after_list x l) c p d
    ⊎ (NoOpen (after_list x l) c × TookSince x l p d)

-- ---- certificates that are passed on

-- what forgelilac_certificate comes to, of author and round of p, with the stretch o lent
abbrev pub certificate_read : Words → Content → List ℕ → Result
certificate_read x p o =
    answer_on x (by_host (aside (certificate (record { 0 = p.author }) p.round) o))

-- it is accepted, and what it writes can be handed to forgelilac_accept: the proposal p and the endorsers d
pub record PassesOn (x : Words) (p : Content) (d : ℕ) (o : List ℕ) : Type 0 where
  pub accepted : (certificate_read x p o).refusal ≡ 0
  pub can_read : certificate_reads (certificate_read x p o).out ≡ true
  pub proposal : content_of (certificate_in (certificate_read x p o).out).proposal ≡ p
  pub endorsers : (certificate_in (certificate_read x p o).out).endorsers ≡ d
