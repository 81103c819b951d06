-- What calls of the library took over words is what the calls took that they count as.
use Rattle.std.proofs.Common.{◌≡◌, refl, sym, ap, ◌∙◌, subst, Bool, true, false, cond, true≢false, List, [], ◌∷◌, ◌++◌, ◌⊎◌, inl, inr, ◌≢◌, ℕ, ◌<◌, length, get_or, eqb, arith, eq-eqb, eqb-true, Option, Some, None}
use Rattle.std.proofs.lemmas.Option.{same_Some, none-some}
use Rattle.base.specs.Options.{if_there}
use Rattle.terms.specs.declared.Certificate.{Certificate}
use Rattle.terms.specs.Proposals.{Content, content_of}
use Rattle.engine.specs.Calls.{Call, accept}
use Rattle.engine.specs.Engine.{Engine, refusal_for}
use Rattle.engine.specs.Sequences.{after_calls, NoOpens}
use Rattle.engine.specs.Guests.{as_host}
use Rattle.batch.specs.Batch.{turns_of, batch_refusal, batch_answers}
use Rattle.batch.proofs.OrderLaws.{each_has_one_turn}
use Rattle.batch.proofs.AnswerLaws.{turn-parts, turn_low}
use Rattle.nonforking.specs.Statement.{Takes}
use Rattle.nonforking.specs.Stored.{Stored}
use Rattle.submissions.specs.Submissions.{one, batch, accepts_of, calls_of}
use Rattle.submissions.specs.Requests as requests
use Rattle.submissions.specs.Requests.{Asked, asks, asks_batch, Request, host, guest, submitted_by, submission_of, host_result, refused_with, after_requests, NoOpenAsked}
use Rattle.kept.specs.Kept.{calls_asked, StoredThen}
use Rattle.kept.proofs.KeptLaws.{leaves_as_calls, asked-opens-none}
use Rattle.words.specs.Proposals.{certificate_reads, certificate_in}
use Rattle.words.specs.Sheets.{sheet_in}
use Rattle.words.specs.States.{state_reads}
use Rattle.hosting.specs.HostCalls.{HostCall, opens, host_in}
use Rattle.hosting.specs.GuestForms.{guest_in}
use Rattle.batching.specs.declared.rows.CertificateRecord.{CertificateRecord}
use Rattle.batching.specs.Rows.{no_record, record_words, certificate_of, row_of}
use Rattle.library.specs.Calls.{LibraryCall, by_host, by_guest, batch_by_host, batch_by_guest, request_in}
use Rattle.library.specs.Lists.{Words, engine_of, after_list, requests_in, AllTyped, Gives, Answered}
use Rattle.library.proofs.ListLaws.{list_gives}
use Rattle.library.proofs.AnswerLaws.{call-answered}
use Rattle.wordclaims.specs.Claims.{answer_on, NoOpen, OneTaken, Took, TookSince}
use Rattle.wordclaims.proofs.WordLaws.{host_can, form_can, NoOpenThen, no_open_then}
use Rattle.wordclaims.proofs.TurnLaws.{stored_join, stored_since, stored_parts, AtTurn, turn_stored, stored_turn, answer-turn}

-- the calls that a request, or none, counts as
abbrev counted : Engine → Option Request → List Call
counted e q = if_there q [] (λ y. if_there (submission_of e y) [] (calls_of e))

-- ---- a record of a row

certificate-there : (r : CertificateRecord) (c : Certificate) → certificate_of r ≡ Some c → certificate_in (record_words r) ≡ c
unfolding certificate_of
certificate-there r c = go (certificate_reads (record_words r))
  where
    go : (b : Bool) → cond b (Some (certificate_in (record_words r))) None ≡ Some c → certificate_in (record_words r) ≡ c
    go true q = same_Some (certificate_in (record_words r)) c q
    go false q = absurd (none-some c q)

-- what is answered as 0 can be read
answered-reads : (r : CertificateRecord) (f : Certificate → ℕ) → if_there (certificate_of r) 1 f ≡ 0 → (certificate_of r ≡ Some (certificate_in (record_words r))) × (f (certificate_in (record_words r)) ≡ 0)
unfolding certificate_of
answered-reads r f = go (certificate_reads (record_words r))
  where
    go : (b : Bool) → if_there (cond b (Some (certificate_in (record_words r))) None) 1 f ≡ 0 → (cond b (Some (certificate_in (record_words r))) None ≡ Some (certificate_in (record_words r))) × (f (certificate_in (record_words r)) ≡ 0)
    go true q = (refl, q)
    go false q = absurd (omega (arith, q))

module _ (x : Words) (p : Content) (d : ℕ) where
  abbrev e : Engine
  e = engine_of x

  -- ---- one call, which answers the number n

  call_stored : (n : ℕ) (c : Call) → n ≡ refusal_for e c → (n ≡ 0) × Takes e c p d → Stored e (c ∷ []) p d
  unfolding after_calls
  call_stored n c m t = inl (sym m ∙ t.0, t.1)

  stored_call : (n : ℕ) (c : Call) → n ≡ refusal_for e c → Stored e (c ∷ []) p d → (n ≡ 0) × Takes e c p d
  unfolding after_calls
  stored_call n c m (inl y) = (m ∙ y.0, y.1)
  stored_call n c m (inr y) = absurd y.1

  -- ---- a batch

  module _ (row : List CertificateRecord) (answers out : List ℕ) (left : out ≡ batch_answers e.state e.table (row_of row) answers) where
    abbrev number : ℕ
    number = batch_refusal e.state e.table (length row) (length answers)

    abbrev record_at : ℕ → CertificateRecord
    record_at q = get_or row q no_record

    batch_stored : (n : ℕ) → n ≡ number → (n ≡ 0) × OneTaken row out p d → Stored e (calls_of e (batch (row_of row) answers)) p d
    batch_stored n m (z, t) =
        let h : number ≡ 0 = sym m ∙ z in
        let k = turn-parts (each_has_one_turn (λ q. ((row_of row).at q).key) (length row)) t.place t.low in
        let a = answered-reads (record_at t.place) (λ c. refusal_for (after_calls e (accepts_of (row_of row) k.former)) (accept c))
        (sym (answer-turn (row_of row) e answers h k.former t.place k.latter k.whole t.low) ∙ sym (ap (λ (o : List ℕ). get_or o t.place 0) left) ∙ t.answered) in
        rw (eq-eqb number 0 h, k.whole, ← t.proposal, ← t.endorsers) (turn_stored (row_of row) k.former k.latter t.place (certificate_in (record_words (record_at t.place))) a.0 e a.1)

    turn_taken : number ≡ 0 → AtTurn (row_of row) e (turns_of (row_of row)) p d → OneTaken row out p d
    turn_taken h t =
        let low : t.place < length row = turn_low (each_has_one_turn (λ q. ((row_of row).at q).key) (length row)) t.former t.place t.latter t.whole in
        let c = certificate-there (record_at t.place) t.certificate t.offered in
        record {
          place = t.place;
          low = low;
          answered = ap (λ (o : List ℕ). get_or o t.place 0) left ∙ answer-turn (row_of row) e answers h t.former t.place t.latter t.whole low
              ∙ ap (λ (o : Option Certificate). if_there o 1 (λ c. refusal_for (after_calls e (accepts_of (row_of row) t.former)) (accept c))) t.offered ∙ t.accepted;
          proposal = ap (λ (c : Certificate). content_of c.proposal) c ∙ t.proposal;
          endorsers = ap (λ (c : Certificate). c.endorsers) c ∙ t.endorsers;
        }

    stored_batch : (n : ℕ) → n ≡ number → Stored e (calls_of e (batch (row_of row) answers)) p d → (n ≡ 0) × OneTaken row out p d
    stored_batch n m = go (eqb number 0) refl
      where
        go : (b : Bool) → eqb number 0 ≡ b → Stored e (cond b (accepts_of (row_of row) (turns_of (row_of row))) []) p d → (n ≡ 0) × OneTaken row out p d
        go true k y = let h = eqb-true number 0 k in (m ∙ h, turn_taken h (stored_turn (row_of row) (turns_of (row_of row)) e p d y))
        go false k y = absurd y

  -- ---- a guest's, whose caller may be refused

  module _ (c : ℕ) (a : Asked) (n : ℕ) (m : n ≡ (requests.result_of e (guest c a)).refusal) where
    abbrev barred : ℕ
    barred = requests.caller_number e c a

    guest_stored : n ≡ 0 → (requests.result_of e (guest c a) ≡ host_result e (submitted_by c a) → Stored e (calls_of e (submitted_by c a)) p d) → Stored e (counted e (Some (guest c a))) p d
    unfolding requests.result_of
    guest_stored z = go (eqb barred 0) refl m
      where
        go : (b : Bool) → eqb barred 0 ≡ b → n ≡ (cond b (host_result e (submitted_by c a)) (refused_with e (submitted_by c a) barred)).refusal
            → (cond b (host_result e (submitted_by c a)) (refused_with e (submitted_by c a) barred) ≡ host_result e (submitted_by c a) → Stored e (calls_of e (submitted_by c a)) p d)
            → Stored e (if_there (cond b (Some (submitted_by c a)) None) [] (calls_of e)) p d
        go true k m f = f refl
        go false k m f = absurd (true≢false (sym (eq-eqb barred 0 (sym m ∙ z)) ∙ k))

    stored_guest : Stored e (counted e (Some (guest c a))) p d → (requests.result_of e (guest c a) ≡ host_result e (submitted_by c a)) × Stored e (calls_of e (submitted_by c a)) p d
    unfolding requests.result_of
    stored_guest = go (eqb barred 0)
      where
        go : (b : Bool) → Stored e (if_there (cond b (Some (submitted_by c a)) None) [] (calls_of e)) p d
            → (cond b (host_result e (submitted_by c a)) (refused_with e (submitted_by c a) barred) ≡ host_result e (submitted_by c a)) × Stored e (calls_of e (submitted_by c a)) p d
        go true y = (refl, y)
        go false y = absurd y

  -- ---- every call

  module _ (r : state_reads x.state ≡ true) where
    call_took_stored : (c : LibraryCall) → Took x c p d → Stored e (counted e (request_in c)) p d
    unfolding request_in requests.result_of
    call_took_stored (by_host c) t = go (host_can c) (call-answered x r (by_host c))
      where
        go : (b : Bool) → Answered x (by_host c) (cond b (Some (host (one (host_in c)))) None) → Stored e (counted e (cond b (Some (host (one (host_in c)))) None)) p d
        go true a = call_stored (answer_on x (by_host c)).refusal (host_in c) a.number t
        go false a = absurd (a.number t.0)
    call_took_stored (by_guest k f) t = go (form_can k f) (call-answered x r (by_guest k f))
      where
        go : (b : Bool) → Answered x (by_guest k f) (cond b (Some (guest k (asks (guest_in f)))) None) → Stored e (counted e (cond b (Some (guest k (asks (guest_in f)))) None)) p d
        go true a =
            let n = (answer_on x (by_guest k f)).refusal in
            guest_stored k (asks (guest_in f)) n a.number t.0 (λ q. call_stored n (as_host k (guest_in f)) (a.number ∙ ap (λ (z : requests.Result). z.refusal) q) t)
        go false a = absurd (a.number t.0)
    call_took_stored (batch_by_host row answers) t =
        let a = call-answered x r (batch_by_host row answers) in
        let u = answer_on x (batch_by_host row answers) in
        batch_stored row answers u.out a.lent u.refusal a.number t
    call_took_stored (batch_by_guest k row answers) t =
        let a = call-answered x r (batch_by_guest k row answers) in
        let u = answer_on x (batch_by_guest k row answers) in
        guest_stored k (asks_batch (row_of row) answers) u.refusal a.number t.0
        (λ q. batch_stored row answers u.out (a.lent ∙ ap (λ (z : requests.Result). z.answers) q) u.refusal (a.number ∙ ap (λ (z : requests.Result). z.refusal) q) t)

    call_stored_took : (c : LibraryCall) → Stored e (counted e (request_in c)) p d → Took x c p d
    unfolding request_in requests.result_of
    call_stored_took (by_host c) y = go (host_can c) (call-answered x r (by_host c)) y
      where
        go : (b : Bool) → Answered x (by_host c) (cond b (Some (host (one (host_in c)))) None) → Stored e (counted e (cond b (Some (host (one (host_in c)))) None)) p d → Took x (by_host c) p d
        go true a y = stored_call (answer_on x (by_host c)).refusal (host_in c) a.number y
        go false a y = absurd y
    call_stored_took (by_guest k f) y = go (form_can k f) (call-answered x r (by_guest k f)) y
      where
        go : (b : Bool) → Answered x (by_guest k f) (cond b (Some (guest k (asks (guest_in f)))) None) → Stored e (counted e (cond b (Some (guest k (asks (guest_in f)))) None)) p d → Took x (by_guest k f) p d
        go true a y =
            let n = (answer_on x (by_guest k f)).refusal in
            let s = stored_guest k (asks (guest_in f)) n a.number y in
            stored_call n (as_host k (guest_in f)) (a.number ∙ ap (λ (z : requests.Result). z.refusal) s.0) s.1
        go false a y = absurd y
    call_stored_took (batch_by_host row answers) y =
        let a = call-answered x r (batch_by_host row answers) in
        let u = answer_on x (batch_by_host row answers) in
        stored_batch row answers u.out a.lent u.refusal a.number y
    call_stored_took (batch_by_guest k row answers) y =
        let a = call-answered x r (batch_by_guest k row answers) in
        let u = answer_on x (batch_by_guest k row answers) in
        let s = stored_guest k (asks_batch (row_of row) answers) u.refusal a.number y in
        stored_batch row answers u.out (a.lent ∙ ap (λ (z : requests.Result). z.answers) s.0) u.refusal (a.number ∙ ap (λ (z : requests.Result). z.refusal) s.0) s.1

-- ---- opens

counted_opens_none : (e : Engine) (q : Option Request) → NoOpenThen e q → NoOpens e (counted e q)
counted_opens_none e None n = tt
counted_opens_none e (Some q) n = asked-opens-none e q n

module _ (x : Words) (r : state_reads x.state ≡ true) where
  open_counted : (own : ℕ) (sheet : List ℕ) (rights : ℕ) → NoOpens (engine_of x) (counted (engine_of x) (request_in (by_host (opens own sheet rights)))) → (answer_on x (by_host (opens own sheet rights))).refusal ≢ 0
  unfolding request_in requests.result_of after_calls
  open_counted own sheet rights = go (host_can (opens own sheet rights)) (call-answered x r (by_host (opens own sheet rights)))
    where
      c : HostCall
      c = opens own sheet rights

      go : (b : Bool) → Answered x (by_host c) (cond b (Some (host (one (host_in c)))) None) → NoOpens (engine_of x) (counted (engine_of x) (cond b (Some (host (one (host_in c)))) None)) → (answer_on x (by_host c)).refusal ≢ 0
      go true a n z = n.0 (record { 0 = own }) (sheet_in sheet (record { 0 = rights })) refl (sym a.number ∙ z)
      go false a n z = a.number z

  no_open_back : (c : LibraryCall) → NoOpens (engine_of x) (counted (engine_of x) (request_in c)) → NoOpen x c
  no_open_back c n own sheet rights q z =
      open_counted own sheet rights (subst (λ (y : LibraryCall). NoOpens (engine_of x) (counted (engine_of x) (request_in y))) q n) (subst (λ (y : LibraryCall). (answer_on x y).refusal ≡ 0) q z)

-- ---- lists

module _ (x : Words) (e : Engine) (g : Gives x e) (p : Content) (d : ℕ) where
  module _ (c : LibraryCall) (l : List LibraryCall) (i : AllTyped l) where
    abbrev asked : List Request
    asked = requests_in l

    abbrev then : Words
    then = after_list x l

    -- a property of the words that stand then is one of the engine after the calls
    moved : (P : Engine → Engine → Type 0) → P (engine_of then) (engine_of then) → P (after_calls e (calls_asked e asked)) (after_requests e asked)
    moved P h =
        let k = (list_gives x e g l i).gives in
        subst (λ (b : Engine). P b (after_requests e asked)) (leaves_as_calls e asked) (subst (λ (b : Engine). P b b) k h)

    moved_back : (P : Engine → Engine → Type 0) → P (after_calls e (calls_asked e asked)) (after_requests e asked) → P (engine_of then) (engine_of then)
    moved_back P h =
        let k = (list_gives x e g l i).gives in
        subst (λ (b : Engine). P b b) (sym k) (subst (λ (b : Engine). P b (after_requests e asked)) (sym (leaves_as_calls e asked)) h)

    -- the calls that the list counts as
    listed : (q : Option Request) → Stored e (counted (after_requests e asked) q ++ calls_asked e asked) p d → Stored e (calls_asked e (if_there q asked (λ y. y ∷ asked))) p d
    unfolding calls_asked
    listed None h = h
    listed (Some q) h = h

    parted : (q : Option Request) → Stored e (calls_asked e (if_there q asked (λ y. y ∷ asked))) p d → Stored e (counted (after_requests e asked) q ++ calls_asked e asked) p d
    unfolding calls_asked
    parted None h = h
    parted (Some q) h = h

  pub took_stored : (l : List LibraryCall) → AllTyped l → TookSince x l p d → StoredThen e (requests_in l) p d
  unfolding requests_in
  took_stored [] i t = absurd t
  took_stored (c ∷ l) i (inl t) =
      let r = (list_gives x e g l i.1).can_read in
      let m = calls_asked e (requests_in l) in
      listed c l i.1 (request_in c)
      (stored_join e m p d (counted (after_requests e (requests_in l)) (request_in c))
      (moved c l i.1 (λ (a b : Engine). Stored a (counted b (request_in c)) p d) (call_took_stored (after_list x l) p d r c t)))
  took_stored (c ∷ l) i (inr t) =
      let r = (list_gives x e g l i.1).can_read in
      let m = calls_asked e (requests_in l) in
      listed c l i.1 (request_in c)
      (stored_since e m p d (counted (after_requests e (requests_in l)) (request_in c))
      (moved c l i.1 (λ (a b : Engine). NoOpens a (counted b (request_in c))) (counted_opens_none (engine_of (after_list x l)) (request_in c) (no_open_then (after_list x l) r c t.0)))
      (took_stored l i.1 t.1))

  pub stored_took : (l : List LibraryCall) → AllTyped l → StoredThen e (requests_in l) p d → TookSince x l p d
  unfolding requests_in calls_asked
  stored_took [] i h = absurd h
  stored_took (c ∷ l) i h = go (stored_parts e (calls_asked e (requests_in l)) p d (counted (after_requests e (requests_in l)) (request_in c)) (parted c l i.1 (request_in c) h)) (stored_took l i.1)
    where
      r : state_reads (after_list x l).state ≡ true
      r = (list_gives x e g l i.1).can_read

      q : Option Request
      q = request_in c

      b : Engine
      b = after_calls e (calls_asked e (requests_in l))

      go : Stored b (counted (after_requests e (requests_in l)) q) p d ⊎ (NoOpens b (counted (after_requests e (requests_in l)) q) × Stored e (calls_asked e (requests_in l)) p d) → (StoredThen e (requests_in l) p d → TookSince x l p d) → TookSince x (c ∷ l) p d
      go (inl y) f = inl (call_stored_took (after_list x l) p d r c (moved_back c l i.1 (λ (a b : Engine). Stored a (counted b (request_in c)) p d) y))
      go (inr y) f = inr (no_open_back (after_list x l) r c (moved_back c l i.1 (λ (a b : Engine). NoOpens a (counted b (request_in c))) y.0), f y.1)
