-- A run as four claims see it: lines, each of which is a call of the library over words, the request that it is read as, what is submitted, and the single calls that this counts as.
use Rattle.std.specs.Prelude.{List, [], ◌∷◌, ◌++◌, ℕ, length, map, replicate}
use Rattle.agreement.specs.Entries as entries
use Rattle.terms.specs.declared.Proposal.{Proposal}
use Rattle.terms.specs.declared.Certificate.{Certificate}
use Rattle.serial.specs.Calls as serial
use Rattle.engine.specs.Guests as guests
use Rattle.engine.specs.Guests.{GuestCall, as_host}
use Rattle.nonforking.specs.Witness.{Answered, by}
use Rattle.submissions.specs.Submissions.{Submission, one, batch}
use Rattle.submissions.specs.Requests.{Request, host, guest, asks, asks_batch}
use Rattle.words.specs.Bodies.{body_words, triple_words}
use Rattle.hosting.specs.HostCalls as hosts
use Rattle.hosting.specs.HostCalls.{HostCall}
use Rattle.hosting.specs.GuestForms as forms
use Rattle.hosting.specs.GuestForms.{GuestForm}
use Rattle.batching.specs.declared.rows.CertificateRecord.{CertificateRecord}
use Rattle.batching.specs.Rows.{row_of}
use Rattle.library.specs.Calls.{LibraryCall, by_host, by_guest, batch_by_host, batch_by_guest}

pub record Line : Type 0 where
  pub library : entries.Entry LibraryCall
  pub request : entries.Entry Request
  -- none where the caller is refused
  pub submissions : List (entries.Entry Submission)
  -- each with the number that answers it, newest first
  pub calls : List Answered

-- ---- a list of lines, newest first

abbrev pub library_calls : List Line → List (entries.Entry LibraryCall)
library_calls [] = []
library_calls (x ∷ l) = x.library ∷ library_calls l

abbrev pub requests : List Line → List (entries.Entry Request)
requests [] = []
requests (x ∷ l) = x.request ∷ requests l

abbrev pub submissions : List Line → List (entries.Entry Submission)
submissions [] = []
submissions (x ∷ l) = x.submissions ++ submissions l

abbrev pub answered : List Line → List Answered
answered [] = []
answered (x ∷ l) = x.calls ++ answered l

-- ---- words that are handed in

abbrev pub proposal_words : Proposal → List ℕ
proposal_words p = p.author.0 ∷ p.round ∷ body_words p.body

abbrev pub certificate_words : Certificate → List ℕ
certificate_words c = proposal_words c.proposal ++ (c.endorsers ∷ [])

abbrev pub record_of : Certificate → CertificateRecord
record_of c = record {
  author = c.proposal.author.0;
  round = c.proposal.round;
  body = body_words c.proposal.body;
  endorsers = c.endorsers;
}

-- of a guest; where it reads, no out stretch is lent
abbrev pub guest_form : GuestCall → GuestForm
guest_form (guests.propose b) = forms.propose (body_words b)
guest_form (guests.draw v) = forms.draw v
guest_form (guests.enqueue x) = forms.enqueue (triple_words x)
guest_form (guests.endorse p) = forms.endorse (proposal_words p)
guest_form (guests.certify d) = forms.certify d
guest_form (guests.accept c) = forms.accept (certificate_words c)
guest_form guests.advance = forms.advance
guest_form guests.commit = forms.commit
guest_form (guests.access a) = forms.access a
guest_form (guests.aside x) = forms.aside x []

-- of a host, for guest g
abbrev pub host_form : ℕ → GuestCall → HostCall
host_form g (guests.propose b) = hosts.propose (body_words b)
host_form g (guests.draw v) = hosts.draw v
host_form g (guests.enqueue x) = hosts.enqueue g (triple_words x)
host_form g (guests.endorse p) = hosts.endorse (proposal_words p)
host_form g (guests.certify d) = hosts.certify d
host_form g (guests.accept c) = hosts.accept (certificate_words c)
host_form g guests.advance = hosts.advance
host_form g guests.commit = hosts.commit
host_form g (guests.access a) = hosts.port (serial.access g a)
host_form g (guests.aside x) = hosts.aside x []

-- certificates as a batch, with zeros lent for the answers
abbrev pub answers_for : List Certificate → List ℕ
answers_for l = replicate (length l) 0

abbrev pub batched : List Certificate → Submission
batched l = batch (row_of (map record_of l)) (answers_for l)

-- which guest g asks for
abbrev pub batch_asked : ℕ → List Certificate → Request
batch_asked g l = guest g (asks_batch (row_of (map record_of l)) (answers_for l))

-- ---- lines

module _ (i : ℕ) where
  abbrev entry : {A : Type 0} → A → entries.Entry A
  entry x = record { who = i; call = x }

  -- an accepted call of member i's host, for guest g
  abbrev pub for_guest : ℕ → GuestCall → Line
  for_guest g k = record {
    library = entry (by_host (host_form g k));
    request = entry (host (one (as_host g k)));
    submissions = entry (one (as_host g k)) ∷ [];
    calls = by i (as_host g k) ∷ [];
  }

  -- and for none; to an enqueue it is one for guest 0
  abbrev pub own : GuestCall → Line
  own = for_guest 0

  -- an accepted call of guest g, who has the right
  abbrev pub allowed : ℕ → GuestCall → Line
  allowed g k = record {
    library = entry (by_guest g (guest_form k));
    request = entry (guest g (asks k));
    submissions = entry (one (as_host g k)) ∷ [];
    calls = by i (as_host g k) ∷ [];
  }

  -- one of guest g, who lacks the right
  abbrev pub barred : ℕ → GuestCall → Line
  barred g k = record {
    library = entry (by_guest g (guest_form k));
    request = entry (guest g (asks k));
    submissions = [];
    calls = [];
  }

  -- an accepted batch of the host, and the calls that it counts as
  abbrev pub in_batch : List Certificate → List Answered → Line
  in_batch l calls = record {
    library = entry (batch_by_host (map record_of l) (answers_for l));
    request = entry (host (batched l));
    submissions = entry (batched l) ∷ [];
    calls = calls;
  }

  -- of guest g, who has the right
  abbrev pub batch_allowed : ℕ → List Certificate → List Answered → Line
  batch_allowed g l calls = record {
    library = entry (batch_by_guest g (map record_of l) (answers_for l));
    request = entry (batch_asked g l);
    submissions = entry (batched l) ∷ [];
    calls = calls;
  }

  -- of guest g, who lacks it
  abbrev pub batch_barred : ℕ → List Certificate → Line
  batch_barred g l = record {
    library = entry (batch_by_guest g (map record_of l) (answers_for l));
    request = entry (batch_asked g l);
    submissions = [];
    calls = [];
  }
