-- What a port has given by the library's answers is a listing's prefix, and calls leave other ports.
use Rattle.std.proofs.Common.{◌≡◌, refl, sym, ap, ◌∙◌, Bool, true, false, cond, true≢false, not, ◌&&◌, List, [], ◌∷◌, ◌++◌, ◌≢◌, ℕ, suc, ◌<◌, eqb, leb, ltb, length, arith, eq-eqb, eqb-true, Option, Some, None}
use Rattle.base.proofs.Words.{ℕ_discrete}
use Rattle.base.specs.Options.{if_there}
use Rattle.terms.specs.declared.Certificate.{Certificate}
use Rattle.state.specs.Answers.{if_accepted}
use Rattle.state.proofs.AnswerLaws.{if_accepted-old, if_accepted-same}
use Rattle.serial.specs.Calls.{read, write, PortCall, access, reset, port_of}
use Rattle.serial.specs.Serial.{register}
use Rattle.engine.specs.Calls as engine
use Rattle.engine.specs.Calls.{Call, accept}
use Rattle.engine.specs.Engine.{Engine, refusal_for}
use Rattle.engine.specs.Values.{value_of}
use Rattle.engine.specs.Sequences.{after_calls}
use Rattle.engine.specs.Guests.{as_host}
use Rattle.engine.proofs.ReachedLaws.{intact}
use Rattle.batch.specs.Batch.{Row, turns_of, batch_refusal}
use Rattle.submissions.specs.Submissions.{one, batch, accepts_of, after_submission, calls_of}
use Rattle.submissions.specs.Requests as requests
use Rattle.submissions.specs.Requests.{Asked, asks, asks_batch, Request, host, guest, submitted_by, submission_of, host_result, refused_with, after_requests}
use Rattle.submissions.proofs.RequestLaws.{left_by}
use Rattle.receiving.specs.Received as receiving
use Rattle.receiving.specs.Received.{listing_in, port_on, shown, asked_of, accepted_bytes, bytes_after, received, Served}
use Rattle.receiving.proofs.OtherPorts.{leaves_ports, leaves_other_ports, submitted-leaves}
use Rattle.receiving.proofs.ReceivedLaws as prefixes
use Rattle.receiving.proofs.ResetLaws.{answers_shown}
use Rattle.words.specs.States.{state_reads}
use Rattle.hosting.specs.Calls.{value_word}
use Rattle.hosting.specs.HostCalls as hosts
use Rattle.hosting.specs.HostCalls.{HostCall, host_in}
use Rattle.hosting.specs.GuestForms as forms
use Rattle.hosting.specs.GuestForms.{GuestForm, guest_in}
use Rattle.batching.specs.declared.rows.CertificateRecord.{CertificateRecord}
use Rattle.batching.specs.Rows.{row_of}
use Rattle.library.specs.Calls.{LibraryCall, by_host, by_guest, batch_by_host, batch_by_guest, HostTyped, GuestTyped, Typed, request_in}
use Rattle.library.specs.Lists.{Words, engine_of, after_call, after_list, requests_in, Opening, after_opening, engine_opened, AllTyped, Gives, Answered}
use Rattle.library.proofs.StepLaws.{left}
use Rattle.library.proofs.ListLaws.{call-gives, list_gives, opening-gives, words_give_engines}
use Rattle.library.proofs.ReachLaws.{RequestInRange, request_in_range, words_reach, engine-opening}
use Rattle.library.proofs.AnswerLaws.{call-answered}
use Rattle.wordclaims.specs.Claims.{left_after, answer_on, NoOpen}
use Rattle.wordclaims.specs.Guests.{with_answer, accepted_then, bytes_then, bytes_answered}
use Rattle.wordclaims.proofs.WordLaws.{host_can, form_can, itself, no_open-host}

-- ---- ports that stay

-- what is asked of no such port over words is asked of none on the engine
asks_no_port : (h : ℕ) (c : HostCall) → ((a : PortCall) → c ≡ hosts.port a → port_of a ≢ h) → (a : PortCall) → host_in c ≡ engine.port a → port_of a ≢ h
asks_no_port h (hosts.HostCall.port b) n a q z = let y : b ≡ a = cc q in n b refl (ap port_of y ∙ z)
asks_no_port h c n a q z = absurd (cc q)

module _ (x : Opening) (l : List LibraryCall) (i : AllTyped l) where
  abbrev words : Words
  words = left_after x l

  abbrev told : Engine
  told = engine_of words

  can_read : state_reads words.state ≡ true
  can_read = (words_give_engines x l i).can_read

  leaves_as_request : (c : LibraryCall) → Typed c → (h : ℕ) → port_on (engine_of (after_call words c)) h ≡ port_on (left told (request_in c)) h
  leaves_as_request c t h = ap (λ (d : Engine). port_on d h) (call-gives words told (itself words can_read) c t).gives

  -- a batch leaves every port
  batch-port : (row : List CertificateRecord) (answers : List ℕ) (h : ℕ) → h < 8 → port_on (after_submission told (batch (row_of row) answers)) h ≡ port_on told h
  unfolding request_in
  batch-port row answers h low = submitted-leaves h low told (intact (words_reach x l i)) (suc h) (λ q. omega (arith, q)) (asks_batch (row_of row) answers) (request_in_range told (batch_by_host row answers) tt)

  pub host_batch_leaves : (row : List CertificateRecord) (answers : List ℕ) (h : ℕ) → h < 8 → port_on (engine_of (after_call words (batch_by_host row answers))) h ≡ port_on told h
  unfolding request_in requests.result_of
  host_batch_leaves row answers h low = leaves_as_request (batch_by_host row answers) tt h ∙ batch-port row answers h low

  pub batch_leaves : (c : ℕ) (row : List CertificateRecord) (answers : List ℕ) (h : ℕ) → h < 8 → port_on (engine_of (after_call words (batch_by_guest c row answers))) h ≡ port_on told h
  unfolding request_in
  batch_leaves c row answers h low =
      leaves_as_request (batch_by_guest c row answers) tt h
      ∙ ap (λ (d : Engine). port_on d h) (left_by told (guest c (asks_batch (row_of row) answers)))
      ∙ go (eqb (requests.caller_number told c (asks_batch (row_of row) answers)) 0)
    where
      go : (b : Bool) → port_on (if_there (cond b (Some (batch (row_of row) answers)) None) told (after_submission told)) h ≡ port_on told h
      go true = batch-port row answers h low
      go false = refl

  -- what a caller asks leaves every other guest's
  pub form_leaves : (c : ℕ) (f : GuestForm) → GuestTyped f → (h : ℕ) → h < 8 → h ≢ c → port_on (engine_of (after_call words (by_guest c f))) h ≡ port_on told h
  unfolding request_in
  form_leaves c f t h low other = leaves_as_request (by_guest c f) t h ∙ go (form_can c f) (request_in_range told (by_guest c f) t)
    where
      go : (b : Bool) → RequestInRange told (cond b (Some (guest c (asks (guest_in f)))) None) → port_on (left told (cond b (Some (guest c (asks (guest_in f)))) None)) h ≡ port_on told h
      go true p = leaves_other_ports told (words_reach x l i) c (asks (guest_in f)) p h low other
      go false p = refl

  -- and of the host's own calls all but an accepted open and what is asked of the port
  pub host_leaves : (c : HostCall) → HostTyped c → NoOpen words (by_host c) → (h : ℕ) → h < 8 → ((a : PortCall) → c ≡ hosts.port a → port_of a ≢ h) → port_on (engine_of (after_call words (by_host c))) h ≡ port_on told h
  unfolding request_in requests.result_of
  host_leaves c t n h low m = leaves_as_request (by_host c) t h ∙ go (host_can c) (request_in_range told (by_host c) t) (call-answered words can_read (by_host c))
    where
      go : (b : Bool) → RequestInRange told (cond b (Some (host (one (host_in c)))) None) → Answered words (by_host c) (cond b (Some (host (one (host_in c)))) None)
          → port_on (left told (cond b (Some (host (one (host_in c)))) None)) h ≡ port_on told h
      go true p a = leaves_ports told (words_reach x l i) (host_in c) p.0 (no_open-host words c n a) h low (asks_no_port h c m)
      go false p a = refl

-- ---- what a port has given

module _ (g : ℕ) where
  -- what a request, or none, adds
  abbrev bytes_by : Engine → Option Request → List ℕ → List ℕ
  bytes_by e q l = if_there q l (λ y. if_there (submission_of e y) l (λ s. receiving.bytes_then e g (calls_of e s) l))

  -- calls that read nothing
  abbrev Quiet : List Call → Type 0
  Quiet [] = Unit {0}
  Quiet (c ∷ m) = ((e : Engine) (l : List ℕ) → accepted_bytes e g c l ≡ l) × Quiet m

  quiet_join : (m k : List Call) → Quiet m → Quiet k → Quiet (m ++ k)
  quiet_join [] k p q = q
  quiet_join (c ∷ m) k p q = (p.0, quiet_join m k p.1 q)

  quiet_still : (e : Engine) (m : List Call) → Quiet m → (l : List ℕ) → receiving.bytes_then e g m l ≡ l
  unfolding receiving.bytes_then bytes_after
  quiet_still e [] p l = refl
  quiet_still e (c ∷ m) p l =
      let d = after_calls e m in
      ap (λ (k : List ℕ). bytes_after d g c k) (quiet_still e m p.1 l) ∙ ap (λ (k : List ℕ). if_accepted (refusal_for d c) k l) (p.0 d l) ∙ if_accepted-same (refusal_for d c) l

  accepts_quiet : (row : Row) (m : List ℕ) → Quiet (accepts_of row m)
  unfolding accepts_of
  accepts_quiet row [] = tt
  accepts_quiet row (p ∷ m) = quiet_join (accepts_of row m) (if_there (row.at p).certificate [] (λ c. accept c ∷ [])) (accepts_quiet row m) (go (row.at p).certificate)
    where
      go : (o : Option Certificate) → Quiet (if_there o [] (λ c. accept c ∷ []))
      go None = tt
      go (Some c) = ((λ e l. refl), tt)

  batch_quiet : (e : Engine) (row : Row) (answers l : List ℕ) → receiving.bytes_then e g (calls_of e (batch row answers)) l ≡ l
  unfolding receiving.bytes_then
  batch_quiet e row answers l = go (eqb (batch_refusal e.state e.table row.count (length answers)) 0)
    where
      go : (b : Bool) → receiving.bytes_then e g (cond b (accepts_of row (turns_of row)) []) l ≡ l
      go true = quiet_still e (accepts_of row (turns_of row)) (accepts_quiet row (turns_of row)) l
      go false = refl

  -- ---- one call

  module _ (x : Words) (r : state_reads x.state ≡ true) (l : List ℕ) where
    abbrev e : Engine
    e = engine_of x

    -- the value that a read answers is what the offset shows
    port-answered : (a : PortCall) (v : ℕ) → refusal_for e (engine.port a) ≡ 0 → v ≡ value_word (value_of e (engine.port a)) → with_answer x g a v l ≡ asked_of e g a l
    unfolding register
    port-answered (access h (read o)) v z q = go (eqb h g) refl
      where
        more : Bool
        more = eqb o 0 && (not (leb 128 (shown e g 3)) && ltb (length l) (length (listing_in e)))

        go : (b : Bool) → eqb h g ≡ b → cond (b && more) (l ++ (v ∷ [])) l ≡ cond (b && more) (l ++ (shown e g o ∷ [])) l
        go true k = ap (λ (w : ℕ). cond more (l ++ (w ∷ [])) l) (q ∙ ap value_word (answers_shown e h o z) ∙ ap (λ (w : ℕ). shown e w o) (eqb-true h g k))
        go false k = refl
    port-answered (access h (write o b)) v z q = refl
    port-answered (reset h) v z q = refl

    host-accepted : (c : HostCall) (v : ℕ) → refusal_for e (host_in c) ≡ 0 → v ≡ value_word (value_of e (host_in c)) → accepted_then x g (by_host c) v l ≡ accepted_bytes e g (host_in c) l
    host-accepted (hosts.HostCall.port a) v z q = port-answered a v z q
    host-accepted c v z q = refl

    guest-accepted : (k : ℕ) (f : GuestForm) (v : ℕ) → refusal_for e (as_host k (guest_in f)) ≡ 0 → v ≡ value_word (value_of e (as_host k (guest_in f)))
        → accepted_then x g (by_guest k f) v l ≡ accepted_bytes e g (as_host k (guest_in f)) l
    guest-accepted k (forms.GuestForm.access a) v z q = port-answered (access k a) v z q
    guest-accepted k f v z q = refl

    -- with the number and the value of the engine's own call
    as_call : (n : ℕ) (c : Call) (new : List ℕ) → n ≡ refusal_for e c → (refusal_for e c ≡ 0 → new ≡ accepted_bytes e g c l) → if_accepted n new l ≡ receiving.bytes_then e g (c ∷ []) l
    unfolding receiving.bytes_then bytes_after after_calls
    as_call n c new m f = rw m (go (ℕ_discrete (refusal_for e c) 0))
      where
        go : Dec (refusal_for e c ≡ 0) → if_accepted (refusal_for e c) new l ≡ if_accepted (refusal_for e c) (accepted_bytes e g c l) l
        go (yes z) = ap (λ (k : List ℕ). if_accepted (refusal_for e c) k l) (f z)
        go (no z) = if_accepted-old (refusal_for e c) new l z ∙ sym (if_accepted-old (refusal_for e c) (accepted_bytes e g c l) l z)

    host-bytes : (c : HostCall) (b : Bool) → Answered x (by_host c) (cond b (Some (host (one (host_in c)))) None) → bytes_then x g (by_host c) l ≡ bytes_by e (cond b (Some (host (one (host_in c)))) None) l
    unfolding requests.result_of
    host-bytes c true a = as_call (answer_on x (by_host c)).refusal (host_in c) (accepted_then x g (by_host c) (answer_on x (by_host c)).value l) a.number (λ z. host-accepted c (answer_on x (by_host c)).value z a.word)
    host-bytes c false a = if_accepted-old (answer_on x (by_host c)).refusal (accepted_then x g (by_host c) (answer_on x (by_host c)).value l) l a.number

    guest-bytes : (k : ℕ) (f : GuestForm) (b : Bool) → Answered x (by_guest k f) (cond b (Some (guest k (asks (guest_in f)))) None) → bytes_then x g (by_guest k f) l ≡ bytes_by e (cond b (Some (guest k (asks (guest_in f)))) None) l
    unfolding requests.result_of
    guest-bytes k f false a = if_accepted-old (answer_on x (by_guest k f)).refusal (accepted_then x g (by_guest k f) (answer_on x (by_guest k f)).value l) l a.number
    guest-bytes k f true a = go (eqb (requests.caller_number e k (asks (guest_in f))) 0) refl a.number a.word
      where
        c : Call
        c = as_host k (guest_in f)

        n : ℕ
        n = (answer_on x (by_guest k f)).refusal

        v : ℕ
        v = (answer_on x (by_guest k f)).value

        by-number : ℕ
        by-number = requests.caller_number e k (asks (guest_in f))

        go : (b : Bool) → eqb by-number 0 ≡ b → n ≡ (cond b (host_result e (one c)) (refused_with e (one c) by-number)).refusal → v ≡ value_word (cond b (host_result e (one c)) (refused_with e (one c) by-number)).value
            → if_accepted n (accepted_then x g (by_guest k f) v l) l ≡ if_there (cond b (Some (one c)) None) l (λ s. receiving.bytes_then e g (calls_of e s) l)
        go true h m w = as_call n c (accepted_then x g (by_guest k f) v l) m (λ z. guest-accepted k f v z w)
        go false h m w = if_accepted-old n (accepted_then x g (by_guest k f) v l) l (λ z. true≢false (sym (eq-eqb by-number 0 (sym m ∙ z)) ∙ h))

    -- a batch reads nothing
    batch-bytes : (n : ℕ) (row : Row) (answers : List ℕ) → if_accepted n l l ≡ receiving.bytes_then e g (calls_of e (batch row answers)) l
    batch-bytes n row answers = if_accepted-same n l ∙ sym (batch_quiet e row answers l)

    call-bytes : (c : LibraryCall) → bytes_then x g c l ≡ bytes_by e (request_in c) l
    unfolding request_in
    call-bytes (by_host c) = host-bytes c (host_can c) (call-answered x r (by_host c))
    call-bytes (by_guest k f) = guest-bytes k f (form_can k f) (call-answered x r (by_guest k f))
    call-bytes (batch_by_host row answers) = batch-bytes (answer_on x (batch_by_host row answers)).refusal (row_of row) answers
    call-bytes (batch_by_guest k row answers) = go (eqb (requests.caller_number e k (asks_batch (row_of row) answers)) 0)
      where
        n : ℕ
        n = (answer_on x (batch_by_guest k row answers)).refusal

        go : (b : Bool) → if_accepted n l l ≡ if_there (cond b (Some (batch (row_of row) answers)) None) l (λ s. receiving.bytes_then e g (calls_of e s) l)
        go true = batch-bytes n (row_of row) answers
        go false = if_accepted-same n l

  -- ---- lists

  -- what the library answered is what the engine gave
  bytes-received : (x : Words) (e : Engine) → Gives x e → (l : List LibraryCall) → AllTyped l → bytes_answered x g l ≡ received e g (requests_in l)
  unfolding bytes_answered received requests_in
  bytes-received x e w [] i = refl
  bytes-received x e w (c ∷ l) i =
      let h = list_gives x e w l i.1 in
      call-bytes (after_list x l) h.can_read (bytes_answered x g l) c
      ∙ ap (λ (d : Engine). bytes_by d (request_in c) (bytes_answered x g l)) h.gives
      ∙ ap (λ (k : List ℕ). bytes_by (after_requests e (requests_in l)) (request_in c) k) (bytes-received x e w l i.1)
      ∙ go (request_in c)
    where
      go : (q : Option Request) → bytes_by (after_requests e (requests_in l)) q (received e g (requests_in l)) ≡ received e g (if_there q (requests_in l) (λ q. q ∷ requests_in l))
      go None = refl
      go (Some q) = refl

-- what is asked has values of its types, as it is said of what ports give
in_range : (e : Engine) (l : List LibraryCall) → AllTyped l → receiving.AskedInRange e (requests_in l)
unfolding requests_in
in_range e [] i = tt
in_range e (c ∷ l) i = go (request_in c) (request_in_range (after_requests e (requests_in l)) c i.0) (in_range e l i.1)
  where
    go : (q : Option Request) → RequestInRange (after_requests e (requests_in l)) q → receiving.AskedInRange e (requests_in l) → receiving.AskedInRange e (if_there q (requests_in l) (λ q. q ∷ requests_in l))
    go None p h = h
    go (Some q) p h = (p, h)

pub reads_a_prefix : (x : Opening) (l : List LibraryCall) → AllTyped l → (g : ℕ) → g < 8 → Served (engine_of (left_after x l)) g (bytes_answered (after_opening x) g l)
reads_a_prefix x l i g low =
    rw ((words_give_engines x l i).gives, bytes-received g (after_opening x) (engine_opened x) (opening-gives x) l i)
    (prefixes.reads_a_prefix (engine-opening x) (requests_in l) (in_range (engine_opened x) l i) g low)
