-- What the library answers is the whole answer of the engine that the words give, and what cannot be read is refused.
use Rattle.std.proofs.Common.{◌≡◌, refl, sym, ap, ◌∙◌, Bool, true, false, cond, ◌&&◌, List, ◌≢◌, ℕ, eq-eqb, ne_eqb, Option, Some, None}
use Rattle.base.proofs.Words.{ℕ_discrete}
use Rattle.engine.specs.Calls.{Call, opens}
use Rattle.engine.specs.Values.{value_of}
use Rattle.engine.specs.Guests.{as_host}
use Rattle.submissions.specs.Submissions.{one, batch}
use Rattle.submissions.specs.Requests as requests
use Rattle.submissions.specs.Requests.{Asked, asks, asks_batch, needed_for, submitted_by, Request, host, guest}
use Rattle.words.specs.States.{state_reads}
use Rattle.hosting.specs.Calls.{Result, use_of, engine_in, engine_for, value_word, out_over, refused, result_of}
use Rattle.hosting.proofs.CallLaws.{accepted-call}
use Rattle.hosting.proofs.RefusalLaws.{refused-same}
use Rattle.hosting.specs.Guested.{caller_number, as_guest}
use Rattle.hosting.proofs.GuestedLaws.{guest-barred, guest-allowed}
use Rattle.hosting.specs.HostCalls.{host_reads, host_in, host_out}
use Rattle.hosting.specs.GuestForms.{guest_reads, guest_in, guest_out}
use Rattle.batching.specs.declared.rows.CertificateRecord.{CertificateRecord}
use Rattle.batching.specs.Rows.{row_of}
use Rattle.batching.specs.Batched.{batch_result}
use Rattle.library.specs.Calls.{LibraryCall, by_host, by_guest, batch_by_host, batch_by_guest, has_room, request_in}
use Rattle.library.specs.Lists.{Words, Opening, AllTyped, after_list, after_opening, AnsweredAs, RefusedUnread, Answered}
use Rattle.library.proofs.StepLaws.{refusal-same, room-served, served-room, caller_same}
use Rattle.library.proofs.ListLaws.{words_give_engines}

module _ (w t o : List ℕ) where
  abbrev lent : Words
  lent = record { state = w; table = t }

  -- the result r is the answer to the request q, the out stretch being told by f; with no request it is a refusal
  abbrev Says : (requests.Result → List ℕ) → Result → Option Request → Type 0
  Says f r None = RefusedUnread r lent o
  Says f r (Some q) = AnsweredAs r (requests.result_of (engine_in w t) q) (f (requests.result_of (engine_in w t) q))

  -- ---- a host's call

  value-same : (c : Call) → value_of (engine_for w t o (use_of c)) c ≡ value_of (engine_in w t) c
  unfolding value_of
  value-same (opens own sheet) = refl
  value-same c = refl

  module _ (r : state_reads w ≡ true) where
    host_says : (b : Bool) (c : Call) → Says (λ a. out_over w t o a.value) (result_of w t o b c) (cond (has_room (use_of c) o && b) (Some (host (one c))) None)
    unfolding result_of requests.result_of
    host_says b c = go (has_room (use_of c) o) b refl refl
      where
        go : (m f : Bool) → has_room (use_of c) o ≡ m → b ≡ f → Says (λ a. out_over w t o a.value) (result_of w t o b c) (cond (m && f) (Some (host (one c))) None)
        go true true k l =
            rw (served-room w t o r (use_of c) k, l)
            (record { number = refusal-same w t o c; word = ap value_word (value-same c); lent = ap (out_over w t o) (value-same c) })
        go true false k l = let n : (result_of w t o b c).refusal ≢ 0 = λ z. let a = accepted-call w t o b c z in let e : true ≡ false = sym a.read ∙ l in cc in record { number = n; unchanged = refused-same w t o b c n }
        go false f k l = let n : (result_of w t o b c).refusal ≢ 0 = λ z. let a = accepted-call w t o b c z in let e : true ≡ false = sym (room-served w t o (use_of c) a.serving) ∙ k in cc in record { number = n; unchanged = refused-same w t o b c n }

    -- ---- a guest's form

    module _ (c : ℕ) (a : Asked) (f : requests.Result → List ℕ) (x : Result) (s : (n : ℕ) → o ≡ f (requests.refused_with (engine_in w t) (submitted_by c a) n)) where
      guest_says : (m : Bool) → Says f x (cond m (Some (host (submitted_by c a))) None) → Says f (as_guest w t o c (needed_for a) x) (cond m (Some (guest c a)) None)
      unfolding requests.result_of
      guest_says m h = go (ℕ_discrete (caller_number w c (needed_for a)) 0)
        where
          allowed : caller_number w c (needed_for a) ≡ 0 → (m : Bool) → Says f x (cond m (Some (host (submitted_by c a))) None) → Says f x (cond m (Some (guest c a)) None)
          allowed z true h = rw (eq-eqb (requests.caller_number (engine_in w t) c a) 0 (caller_same w t c a ∙ z)) h
          allowed z false h = h

          barred : caller_number w c (needed_for a) ≢ 0 → (m : Bool) → Says f (refused w t o (caller_number w c (needed_for a))) (cond m (Some (guest c a)) None)
          barred n true =
              rw (ne_eqb (requests.caller_number (engine_in w t) c a) 0 (λ y. n (sym (caller_same w t c a) ∙ y)))
              (record { number = sym (caller_same w t c a); word = refl; lent = s (requests.caller_number (engine_in w t) c a) })
          barred n false = record { number = n; unchanged = refl }

          go : Dec (caller_number w c (needed_for a) ≡ 0) → Says f (as_guest w t o c (needed_for a) x) (cond m (Some (guest c a)) None)
          go (yes z) = rw (guest-allowed w t o c (needed_for a) x z) (allowed z m h)
          go (no n) = rw (guest-barred w t o c (needed_for a) x n) (barred n m)

-- ---- a batch

batch_says : (w t : List ℕ) (row : List CertificateRecord) (answers : List ℕ) → state_reads w ≡ true → Says w t answers (λ a. a.answers) (batch_result w t row answers) (Some (host (batch (row_of row) answers)))
unfolding batch_result requests.result_of
batch_says w t row answers r = rw r (record { number = refl; word = refl; lent = refl })

-- ---- every call

pub call-answered : (x : Words) → state_reads x.state ≡ true → (c : LibraryCall) → Answered x c (request_in c)
unfolding request_in
call-answered x r (by_host c) = host_says x.state x.table (host_out c) r (host_reads c) (host_in c)
call-answered x r (by_guest k c) =
    guest_says x.state x.table (guest_out c) r k (asks (guest_in c)) (λ a. out_over x.state x.table (guest_out c) a.value) (result_of x.state x.table (guest_out c) (guest_reads c) (as_host k (guest_in c))) (λ n. refl)
    (has_room (use_of (as_host k (guest_in c))) (guest_out c) && guest_reads c)
    (host_says x.state x.table (guest_out c) r (guest_reads c) (as_host k (guest_in c)))
call-answered x r (batch_by_host row answers) = batch_says x.state x.table row answers r
call-answered x r (batch_by_guest k row answers) =
    guest_says x.state x.table answers r k (asks_batch (row_of row) answers) (λ a. a.answers) (batch_result x.state x.table row answers) (λ n. refl) true (batch_says x.state x.table row answers r)

-- every later call
pub answered_as_engines : (x : Opening) (l : List LibraryCall) → AllTyped l → (c : LibraryCall) → Answered (after_list (after_opening x) l) c (request_in c)
answered_as_engines x l i c = call-answered (after_list (after_opening x) l) (words_give_engines x l i).can_read c
