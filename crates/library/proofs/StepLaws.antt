-- Laws of one call of the library: its words give the engine that the request leaves.
use Rattle.std.proofs.Common.{◌≡◌, refl, sym, ap, ap₂, ◌∙◌, Bool, true, false, cond, ◌&&◌, List, ◌≢◌, ℕ, length, leb, le-leb, eq-eqb, ne_eqb, Option, Some, None}
use Rattle.base.proofs.Words.{ℕ_discrete}
use Rattle.base.specs.Options.{if_there}
use Rattle.base.proofs.Bools.{both}
use Rattle.engine.specs.Calls.{Call, opens}
use Rattle.engine.specs.Engine.{Engine, refusal_for, after}
use Rattle.engine.proofs.AfterLaws as engine
use Rattle.engine.proofs.AfterLaws.{accepted-new}
use Rattle.serial.specs.Calls.{access}
use Rattle.engine.specs.Guests.{as_host}
use Rattle.submissions.specs.Submissions.{one, batch}
use Rattle.submissions.specs.Requests as requests
use Rattle.submissions.specs.Requests.{Asked, asks, asks_batch, needed_for, submitted_by, Request, host, guest}
use Rattle.words.specs.Lengths.{state_length}
use Rattle.words.specs.States.{state_reads, state_in}
use Rattle.words.proofs.ReadingLaws.{state-read}
use Rattle.hosting.specs.Handed.{Handed}
use Rattle.hosting.specs.Calls.{Result, Use, writes, rewrites, accesses, reads, use_of, engine_in, serves, engine_for, result_of}
use Rattle.hosting.proofs.CallLaws.{accepted-call}
use Rattle.hosting.proofs.RefusalLaws.{refused-same}
use Rattle.hosting.proofs.NextLaws.{accepted-gives}
use Rattle.hosting.proofs.HandedLaws.{open_handed, propose-handed, endorse-handed, certify-handed, accept-handed, advance-handed, commit-handed, enqueue-handed, draw-handed, port-handed, aside-handed}
use Rattle.hosting.specs.Guested.{caller_number, as_guest}
use Rattle.hosting.proofs.GuestedLaws.{guest-barred, guest-allowed}
use Rattle.batching.specs.declared.rows.CertificateRecord.{CertificateRecord}
use Rattle.batching.specs.Rows.{row_of}
use Rattle.batching.specs.Batched.{batch_result}
use Rattle.hosting.specs.HostCalls as hosts
use Rattle.hosting.specs.GuestForms as forms
use Rattle.hosting.specs.HostCalls.{HostCall, host_reads, host_in, host_out}
use Rattle.hosting.specs.GuestForms.{GuestForm, guest_reads, guest_in, guest_out}
use Rattle.library.specs.Calls.{LibraryCall, by_host, by_guest, batch_by_host, batch_by_guest, HostTyped, GuestTyped, Typed, has_room, request_in, comes_to}

-- what a request, or none, leaves of an engine
abbrev pub left : Engine → Option Request → Engine
left e q = if_there q e (λ x. (requests.result_of e x).engine)

-- the words that x leaves can be read, and give the engine that the request q leaves of the one that w and t give
pub record Leaves (w t : List ℕ) (x : Result) (q : Option Request) : Type 0 where
  pub can_read : state_reads x.state ≡ true
  pub gives : engine_in x.state x.table ≡ left (engine_in w t) q

-- nothing is changed, by the words and by the engine
unchanged : {w t : List ℕ} {x : Result} {q : Option Request} → state_reads w ≡ true → x.state ≡ w → x.table ≡ t → left (engine_in w t) q ≡ engine_in w t → Leaves w t x q
unchanged r s u e = record { can_read = rw s r; gives = ap₂ engine_in s u ∙ sym e }

-- ---- a host's call

host-left : (e : Engine) (c : Call) → (requests.result_of e (host (one c))).engine ≡ after e c
unfolding requests.result_of
host-left e c = refl

module _ (w t o : List ℕ) where
  -- an open reads no state, and an accepted one leaves nothing of it
  pub refusal-same : (c : Call) → refusal_for (engine_for w t o (use_of c)) c ≡ refusal_for (engine_in w t) c
  refusal-same (opens own sheet) = refl
  refusal-same c = refl

  after-same : (c : Call) → refusal_for (engine_for w t o (use_of c)) c ≡ 0 → after (engine_for w t o (use_of c)) c ≡ after (engine_in w t) c
  after-same (opens own sheet) a = accepted-new (engine_for w t o writes) (opens own sheet) a ∙ sym (accepted-new (engine_in w t) (opens own sheet) a)
  after-same c a = refl

  -- where a state's words can be read, they serve if there is room
  pub room-served : (u : Use) → serves w t o u ≡ true → has_room u o ≡ true
  room-served writes s = refl
  room-served rewrites s = refl
  room-served (accesses x) s = refl
  room-served (reads n) s = (both (state_reads w) (leb n (length o)) s).1

  module _ (r : state_reads w ≡ true) where
    pub served-room : (u : Use) → has_room u o ≡ true → serves w t o u ≡ true
    served-room writes h = le-leb state_length (length w) (state-read w r).long
    served-room rewrites h = r
    served-room (accesses x) h = r
    served-room (reads n) h = rw (r, h) refl

    module _ {b : Bool} {c : Call} (h : Handed b c) where
      host-accepted : (result_of w t o b c).refusal ≡ 0 → Leaves w t (result_of w t o b c) (cond (has_room (use_of c) o && b) (Some (host (one c))) None)
      host-accepted z =
          let a = accepted-call w t o b c z in
          let g = accepted-gives w t o h z in
          record {
            can_read = g.can_read;
            gives = rw (g.gives, a.its_table, room-served (use_of c) a.serving, a.read) (after-same c a.accepted ∙ sym (host-left (engine_in w t) c));
          }

      -- what the engine refuses
      engine-refused : (result_of w t o b c).refusal ≢ 0 → has_room (use_of c) o ≡ true → b ≡ true → refusal_for (engine_in w t) c ≢ 0
      unfolding result_of
      engine-refused n m f z = n (rw (served-room (use_of c) m, f) (refusal-same c ∙ z))

      host-refused : (result_of w t o b c).refusal ≢ 0 → Leaves w t (result_of w t o b c) (cond (has_room (use_of c) o && b) (Some (host (one c))) None)
      host-refused n = let q = refused-same w t o b c n in unchanged r (ap (λ (x : Result). x.state) q) (ap (λ (x : Result). x.table) q) (go (has_room (use_of c) o) b refl refl)
        where
          go : (m f : Bool) → has_room (use_of c) o ≡ m → b ≡ f → left (engine_in w t) (cond (m && f) (Some (host (one c))) None) ≡ engine_in w t
          go true true k l = host-left (engine_in w t) c ∙ engine.refused-same (engine_in w t) c (engine-refused n k l)
          go true false k l = refl
          go false f k l = refl

      pub host-leaves : Leaves w t (result_of w t o b c) (cond (has_room (use_of c) o && b) (Some (host (one c))) None)
      host-leaves = go (ℕ_discrete (result_of w t o b c).refusal 0)
        where
          go : Dec ((result_of w t o b c).refusal ≡ 0) → Leaves w t (result_of w t o b c) (cond (has_room (use_of c) o && b) (Some (host (one c))) None)
          go (yes z) = host-accepted z
          go (no n) = host-refused n

-- ---- a guest's form

module _ (e : Engine) (c : ℕ) (a : Asked) where
  asked-barred : requests.caller_number e c a ≢ 0 → (requests.result_of e (guest c a)).engine ≡ e
  unfolding requests.result_of
  asked-barred n = rw (ne_eqb (requests.caller_number e c a) 0 n) refl

  asked-allowed : requests.caller_number e c a ≡ 0 → (requests.result_of e (guest c a)).engine ≡ (requests.result_of e (host (submitted_by c a))).engine
  unfolding requests.result_of
  asked-allowed h = rw (eq-eqb (requests.caller_number e c a) 0 h) refl

-- the rights of words are those of the state that they give
pub caller_same : (w t : List ℕ) (c : ℕ) (a : Asked) → requests.caller_number (engine_in w t) c a ≡ caller_number w c (needed_for a)
unfolding state_in
caller_same w t c a = refl

-- what the host's own leaves, where the caller is not refused
module _ (w t o : List ℕ) (c : ℕ) (a : Asked) (m : Bool) (x : Result) (r : state_reads w ≡ true) where
  guest-leaves : Leaves w t x (cond m (Some (host (submitted_by c a))) None) → Leaves w t (as_guest w t o c (needed_for a) x) (cond m (Some (guest c a)) None)
  guest-leaves l = go (ℕ_discrete (caller_number w c (needed_for a)) 0)
    where
      e : Engine
      e = engine_in w t

      as_host_lem : caller_number w c (needed_for a) ≡ 0 → (m : Bool) → left e (cond m (Some (host (submitted_by c a))) None) ≡ left e (cond m (Some (guest c a)) None)
      as_host_lem z true = sym (asked-allowed e c a (caller_same w t c a ∙ z))
      as_host_lem z false = refl

      as_it_was : caller_number w c (needed_for a) ≢ 0 → (m : Bool) → left e (cond m (Some (guest c a)) None) ≡ e
      as_it_was n true = asked-barred e c a (λ z. n (sym (caller_same w t c a) ∙ z))
      as_it_was n false = refl

      go : Dec (caller_number w c (needed_for a) ≡ 0) → Leaves w t (as_guest w t o c (needed_for a) x) (cond m (Some (guest c a)) None)
      go (yes z) = rw (guest-allowed w t o c (needed_for a) x z) (record { can_read = l.can_read; gives = l.gives ∙ as_host_lem z m })
      go (no n) = rw (guest-barred w t o c (needed_for a) x n) (unchanged r refl refl (as_it_was n m))

-- ---- a batch

batch-leaves : (w t : List ℕ) (row : List CertificateRecord) (answers : List ℕ) → state_reads w ≡ true → Leaves w t (batch_result w t row answers) (Some (host (batch (row_of row) answers)))
unfolding batch_result requests.result_of
batch-leaves w t row answers r = rw r (record { can_read = r; gives = refl })

-- ---- every call

pub host-handed : (x : HostCall) → HostTyped x → Handed (host_reads x) (host_in x)
host-handed (hosts.HostCall.opens own sheet rights) i = open_handed (record { 0 = own }) sheet (record { 0 = rights })
host-handed (hosts.HostCall.propose b) i = propose-handed b
host-handed (hosts.HostCall.endorse p) i = endorse-handed p
host-handed (hosts.HostCall.certify d) i = certify-handed d
host-handed (hosts.HostCall.accept c) i = accept-handed c
host-handed hosts.HostCall.advance i = advance-handed
host-handed hosts.HostCall.commit i = commit-handed
host-handed (hosts.HostCall.enqueue g x) i = enqueue-handed g x
host-handed (hosts.HostCall.draw v) i = draw-handed v
host-handed (hosts.HostCall.port x) i = port-handed x i
host-handed (hosts.HostCall.aside x o) i = aside-handed x

pub guest-handed : (c : ℕ) (x : GuestForm) → GuestTyped x → Handed (guest_reads x) (as_host c (guest_in x))
guest-handed c (forms.GuestForm.propose b) i = propose-handed b
guest-handed c (forms.GuestForm.draw v) i = draw-handed v
guest-handed c (forms.GuestForm.enqueue x) i = enqueue-handed c x
guest-handed c (forms.GuestForm.endorse p) i = endorse-handed p
guest-handed c (forms.GuestForm.certify d) i = certify-handed d
guest-handed c (forms.GuestForm.accept x) i = accept-handed x
guest-handed c forms.GuestForm.advance i = advance-handed
guest-handed c forms.GuestForm.commit i = commit-handed
guest-handed c (forms.GuestForm.access a) i = port-handed (access c a) i
guest-handed c (forms.GuestForm.aside x o) i = aside-handed x

pub call-leaves : (w t : List ℕ) → state_reads w ≡ true → (x : LibraryCall) → Typed x → Leaves w t (comes_to w t x) (request_in x)
unfolding request_in
call-leaves w t r (by_host x) i = host-leaves w t (host_out x) r (host-handed x i)
call-leaves w t r (by_guest c x) i =
    guest-leaves w t (guest_out x) c (asks (guest_in x)) (has_room (use_of (as_host c (guest_in x))) (guest_out x) && guest_reads x)
    (result_of w t (guest_out x) (guest_reads x) (as_host c (guest_in x))) r (host-leaves w t (guest_out x) r (guest-handed c x i))
call-leaves w t r (batch_by_host row answers) i = batch-leaves w t row answers r
call-leaves w t r (batch_by_guest c row answers) i = guest-leaves w t answers c (asks_batch (row_of row) answers) true (batch_result w t row answers) r (batch-leaves w t row answers r)
