-- The words that the library leaves give engines that calls from an opening lead to: what can be read has values of its types.
use Rattle.std.proofs.Common.{◌≡◌, refl, sym, subst, Bool, true, false, cond, ◌&&◌, List, [], ◌∷◌, ◌++◌, ℕ, length, get_or, eqb, Option, Some, None}
use Rattle.base.specs.Options.{if_there}
use Rattle.open.specs.Open.{closed_state}
use Rattle.engine.specs.Calls.{Call, accept}
use Rattle.engine.specs.Engine.{Engine}
use Rattle.engine.specs.Sequences as engine
use Rattle.engine.specs.Sequences.{AllInRange}
use Rattle.engine.specs.Reached.{Reached, by_open}
use Rattle.engine.specs.Guests.{as_host}
use Rattle.batch.specs.Batch.{turns_of, batch_refusal}
use Rattle.submissions.specs.Submissions.{one, batch, accepts_of, calls_of}
use Rattle.submissions.specs.Requests.{Asked, asks, asks_batch, Request, host, guest, submitted_by, caller_number, submission_of, InRangeThen, after_requests}
use Rattle.submissions.proofs.RequestLaws.{requests_lead_to}
use Rattle.words.specs.Proposals.{certificate_reads, certificate_in}
use Rattle.words.specs.Sheets.{sheet_reads, sheet_in}
use Rattle.hosting.specs.Calls.{use_of}
use Rattle.hosting.proofs.CallLaws.{accepted-call}
use Rattle.hosting.proofs.HandedLaws.{accept-handed}
use Rattle.batching.specs.declared.rows.CertificateRecord.{CertificateRecord}
use Rattle.batching.specs.Rows.{no_record, record_words, certificate_of, row_of}
use Rattle.hosting.specs.HostCalls.{opens, host_reads, host_in, host_out}
use Rattle.hosting.specs.GuestForms.{guest_reads, guest_in, guest_out}
use Rattle.library.specs.Calls.{LibraryCall, by_host, by_guest, batch_by_host, batch_by_guest, Typed, has_room, request_in}
use Rattle.library.specs.Lists.{requests_in, Opening, engine_opened, AllTyped, engine_of, after_list, after_opening}
use Rattle.library.proofs.StepLaws.{host-handed, guest-handed}
use Rattle.library.proofs.ListLaws.{words_give_engines}

-- what is asked, if anything, has values of their types
abbrev pub RequestInRange : Engine → Option Request → Type 0
RequestInRange e None = Unit {0}
RequestInRange e (Some q) = InRangeThen e (submission_of e q)

-- ---- rows

pub in_join : (l m : List Call) → AllInRange l → AllInRange m → AllInRange (l ++ m)
in_join [] m p q = q
in_join (c ∷ l) m p q = (p.0, in_join l m p.1 q)

record_in_range : (x : CertificateRecord) → AllInRange (if_there (certificate_of x) [] (λ c. accept c ∷ []))
unfolding certificate_of
record_in_range x = go (certificate_reads (record_words x)) refl
  where
    go : (b : Bool) → certificate_reads (record_words x) ≡ b → AllInRange (if_there (cond b (Some (certificate_in (record_words x))) None) [] (λ c. accept c ∷ []))
    go true r = ((accept-handed (record_words x)).is_in_range r, tt)
    go false r = tt

accepts_in_range : (row : List CertificateRecord) (l : List ℕ) → AllInRange (accepts_of (row_of row) l)
unfolding accepts_of
accepts_in_range row [] = tt
accepts_in_range row (p ∷ l) = in_join (accepts_of (row_of row) l) _ (accepts_in_range row l) (record_in_range (get_or row p no_record))

batch_in_range : (e : Engine) (row : List CertificateRecord) (answers : List ℕ) → AllInRange (calls_of e (batch (row_of row) answers))
batch_in_range e row answers = go (eqb (batch_refusal e.state e.table (length row) (length answers)) 0)
  where
    go : (b : Bool) → AllInRange (cond b (accepts_of (row_of row) (turns_of (row_of row))) [])
    go true = accepts_in_range row (turns_of (row_of row))
    go false = tt

-- ---- requests

-- of a guest, whose caller may be refused
guest_in_range : (e : Engine) (c : ℕ) (a : Asked) → AllInRange (calls_of e (submitted_by c a)) → InRangeThen e (submission_of e (guest c a))
guest_in_range e c a i = go (eqb (caller_number e c a) 0)
  where
    go : (b : Bool) → InRangeThen e (cond b (Some (submitted_by c a)) None)
    go true = i
    go false = tt

pub request_in_range : (e : Engine) (x : LibraryCall) → Typed x → RequestInRange e (request_in x)
unfolding request_in
request_in_range e (by_host x) i = go (has_room (use_of (host_in x)) (host_out x)) (host_reads x) refl
  where
    go : (m b : Bool) → host_reads x ≡ b → RequestInRange e (cond (m && b) (Some (host (one (host_in x)))) None)
    go true true r = ((host-handed x i).is_in_range r, tt)
    go true false r = tt
    go false b r = tt
request_in_range e (by_guest c x) i = go (has_room (use_of (as_host c (guest_in x))) (guest_out x)) (guest_reads x) refl
  where
    go : (m b : Bool) → guest_reads x ≡ b → RequestInRange e (cond (m && b) (Some (guest c (asks (guest_in x)))) None)
    go true true r = guest_in_range e c (asks (guest_in x)) ((guest-handed c x i).is_in_range r, tt)
    go true false r = tt
    go false b r = tt
request_in_range e (batch_by_host row answers) i = batch_in_range e row answers
request_in_range e (batch_by_guest c row answers) i = guest_in_range e c (asks_batch (row_of row) answers) (batch_in_range e row answers)

-- ---- lists

-- the engine's opening
abbrev pub engine-opening : Opening → engine.Opening
engine-opening x =
    record {
      before = record { state = closed_state; table = x.before.table };
      own = record { 0 = x.own };
      sheet = sheet_in x.sheet (record { 0 = x.rights });
      accepted = (accepted-call x.before.state x.before.table [] (sheet_reads x.sheet) (host_in (opens x.own x.sheet x.rights)) x.accepted).accepted;
    }

-- what requests lead to that calls can be read as
pub requests_reach : (e : Engine) → Reached e → (l : List LibraryCall) → AllTyped l → Reached (after_requests e (requests_in l))
unfolding after_requests requests_in
requests_reach e h [] i = h
requests_reach e h (c ∷ l) i = go (request_in c) (request_in_range (after_requests e (requests_in l)) c i.0) (requests_reach e h l i.1)
  where
    go : (q : Option Request) → RequestInRange (after_requests e (requests_in l)) q → Reached (after_requests e (requests_in l)) → Reached (after_requests e (if_there q (requests_in l) (λ q. q ∷ requests_in l)))
    go None p h = h
    go (Some q) p h = requests_lead_to (after_requests e (requests_in l)) h q p

-- so what is claimed of every engine that calls from an opening lead to is so of every engine that the library's words give, with no premise but that they were opened
pub words_reach : (x : Opening) (l : List LibraryCall) → AllTyped l → Reached (engine_of (after_list (after_opening x) l))
words_reach x l i = subst Reached (sym (words_give_engines x l i).gives) (requests_reach (engine_opened x) (by_open (engine-opening x)) l i)
