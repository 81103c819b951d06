-- The words of a call are those of no other call: it is told by them, and so is what stands behind them.
use Rattle.std.proofs.Common.{◌≡◌, ℕ, zero, suc, eqb, ◌*◌, ◌-◌, ◌<◌, ltb, cond, List, [], ◌∷◌, ◌++◌, get_or, take, drop, length, replicate, refl, sym, ap, ◌∙◌, append_assoc, arith}
use Rattle.std.proofs.Math.Seq.{take-append_seam, drop-append_seam, get_or-append_seam}
use Rattle.batching.specs.declared.rows.CertificateRecord.{CertificateRecord}
use Rattle.batching.specs.Rows.{record_words}
use Rattle.serial.specs.Calls as serial
use Rattle.hosting.specs.HostCalls as hosts
use Rattle.hosting.specs.GuestForms as guests
use Rattle.library.specs.Calls.{LibraryCall, by_host, by_guest, batch_by_host, batch_by_guest}
use Rattle.replaying.specs.declared.calls.HostCall.TheVariants as host
use Rattle.replaying.specs.declared.calls.GuestCall.TheVariants as guest
use Rattle.replaying.specs.declared.calls.Call.{Call}
use Rattle.replaying.specs.declared.calls.Call.TheVariants.{Host, Guest}
use Rattle.replaying.specs.declared.calls.Entry.{Entry}
use Rattle.replaying.specs.declared.failure.Failure.{Failure}
use Rattle.replaying.specs.declared.failure.Failure.TheVariants.{Damaged, Refused, Memory, Stream}
use Rattle.replaying.specs.Told.{told}
use Rattle.replaying.specs.Lists.{rows_words, call_words, entry_words, entries_words, RecordWhole, CallWhole, NoEntry, NoEntries, Unread}
use Rattle.replaying.proofs.UnreadLaws.{record_long, rows_long}

-- what stands in front, and what behind
module _ (n : ℕ) (x r : List ℕ) (e : length x ≡ n) where
  pub front : take n (x ++ r) ≡ x
  front = rw (← e) (take-append_seam x r)

  pub back : drop n (x ++ r) ≡ r
  back = rw (← e) (drop-append_seam x r)

-- the certificate of seventeen words, and those of a row
abbrev record_at : List ℕ → CertificateRecord
record_at w = record {
  author = get_or w 0 0;
  round = get_or w 1 0;
  body = take 14 (drop 2 w);
  endorsers = get_or w 16 0;
}

abbrev rows_at : ℕ → List ℕ → List CertificateRecord
rows_at zero w = []
rows_at (suc n) w = record_at w ∷ rows_at n (drop 17 w)

record_told : (e : CertificateRecord) (r : List ℕ) → RecordWhole e → record_at (record_words e ++ r) ≡ e
unfolding record_words
record_told e r h =
    let b = append_assoc e.body (e.endorsers ∷ []) r in
    let f : take 14 ((e.body ++ e.endorsers ∷ []) ++ r) ≡ e.body = rw b (front 14 e.body (e.endorsers ∷ r) h) in
    let g : get_or ((e.body ++ e.endorsers ∷ []) ++ r) 14 0 ≡ e.endorsers = rw b (rw (← h) (get_or-append_seam e.body e.endorsers r 0)) in
    rw (f, g) refl

rows_told : (l : List CertificateRecord) (r : List ℕ) → ((k : ℕ) (d : CertificateRecord) → k < length l → RecordWhole (get_or l k d)) → rows_at (length l) (rows_words l ++ r) ≡ l
unfolding rows_words
rows_told [] r h = refl
rows_told (e ∷ l) r h =
    let w = h 0 e (omega arith) in
    let b = append_assoc (record_words e) (rows_words l) r in
    rw (b, record_told e (rows_words l ++ r) w, back 17 (record_words e) (rows_words l ++ r) (record_long e w), rows_told l r (λ k d x. h (suc k) d (omega (arith, x)))) refl

-- ---- a call, and what stands behind it, by its number and the words from there on

abbrev host_at : ℕ → List ℕ → LibraryCall × List ℕ
host_at n w =
    cond (eqb n 0) (by_host (hosts.HostCall.propose (take 14 w)), drop 14 w) (
    cond (eqb n 1) (by_host (hosts.HostCall.draw (get_or w 0 0)), drop 1 w) (
    cond (eqb n 2) (by_host (hosts.HostCall.enqueue (get_or w 0 0) (take 3 (drop 1 w))), drop 4 w) (
    cond (eqb n 3) (by_host (hosts.HostCall.endorse (take 16 w)), drop 16 w) (
    cond (eqb n 4) (by_host (hosts.HostCall.certify (get_or w 0 0)), drop 1 w) (
    cond (eqb n 5) (by_host (hosts.HostCall.accept (take 17 w)), drop 17 w) (
    cond (eqb n 6) (batch_by_host (rows_at (get_or w 0 0) (drop 1 w)) (replicate 64 0), drop (17 * get_or w 0 0) (drop 1 w)) (
    cond (eqb n 7) (by_host hosts.HostCall.advance, w) (
    cond (eqb n 8) (by_host hosts.HostCall.commit, w) (
    (by_host (hosts.HostCall.port (serial.reset (get_or w 0 0))), drop 1 w))))))))))

abbrev guest_at : ℕ → ℕ → List ℕ → LibraryCall × List ℕ
guest_at g n w =
    cond (eqb n 0) (by_guest g (guests.GuestForm.propose (take 14 w)), drop 14 w) (
    cond (eqb n 1) (by_guest g (guests.GuestForm.draw (get_or w 0 0)), drop 1 w) (
    cond (eqb n 2) (by_guest g (guests.GuestForm.enqueue (take 3 w)), drop 3 w) (
    cond (eqb n 3) (by_guest g (guests.GuestForm.endorse (take 16 w)), drop 16 w) (
    cond (eqb n 4) (by_guest g (guests.GuestForm.certify (get_or w 0 0)), drop 1 w) (
    cond (eqb n 5) (by_guest g (guests.GuestForm.accept (take 17 w)), drop 17 w) (
    cond (eqb n 6) (batch_by_guest g (rows_at (get_or w 0 0) (drop 1 w)) (replicate 64 0), drop (17 * get_or w 0 0) (drop 1 w)) (
    cond (eqb n 7) (by_guest g guests.GuestForm.advance, w) (
    cond (eqb n 8) (by_guest g guests.GuestForm.commit, w) (
    cond (eqb n 9) (by_guest g (guests.GuestForm.access (serial.read (get_or w 0 0))), drop 1 w) (
    (by_guest g (guests.GuestForm.access (serial.write (get_or w 0 0) (get_or w 1 0))), drop 2 w)))))))))))

abbrev call_at : List ℕ → LibraryCall × List ℕ
call_at v =
    cond (ltb (get_or v 0 0) 16) (host_at (get_or v 0 0) (drop 1 v))
    (guest_at (get_or v 1 0) (get_or v 0 0 - 16) (drop 2 v))

call_told : (c : Call) (r : List ℕ) → CallWhole c → call_at (call_words c ++ r) ≡ (told c, r)
call_told (Host (host.Propose x)) r h = rw (front 14 x r h, back 14 x r h) refl
call_told (Host (host.Draw v)) r h = refl
call_told (Host (host.Enqueue g x)) r h = rw (front 3 x r h, back 3 x r h) refl
call_told (Host (host.Endorse x)) r h = rw (front 16 x r h, back 16 x r h) refl
call_told (Host (host.Certify v)) r h = refl
call_told (Host (host.Accept x)) r h = rw (front 17 x r h, back 17 x r h) refl
call_told (Host (host.Batch x)) r h = rw (rows_told x.items r h, back (17 * length x.items) (rows_words x.items) r (rows_long x.items h)) refl
call_told (Host host.Advance) r h = refl
call_told (Host host.Commit) r h = refl
call_told (Host (host.PortReset g)) r h = refl
call_told (Guest c (guest.Propose x)) r h = rw (front 14 x r h, back 14 x r h) refl
call_told (Guest c (guest.Draw v)) r h = refl
call_told (Guest c (guest.Enqueue x)) r h = rw (front 3 x r h, back 3 x r h) refl
call_told (Guest c (guest.Endorse x)) r h = rw (front 16 x r h, back 16 x r h) refl
call_told (Guest c (guest.Certify v)) r h = refl
call_told (Guest c (guest.Accept x)) r h = rw (front 17 x r h, back 17 x r h) refl
call_told (Guest c (guest.Batch x)) r h = rw (rows_told x.items r h, back (17 * length x.items) (rows_words x.items) r (rows_long x.items h)) refl
call_told (Guest c guest.Advance) r h = refl
call_told (Guest c guest.Commit) r h = refl
call_told (Guest c (guest.PortRead o)) r h = refl
call_told (Guest c (guest.PortWrite o b)) r h = refl

-- two entries that begin the same words are of the same call of the same member, and the same words stand behind them
pub record Same (e d : Entry) (r s : List ℕ) : Type 0 where
  pub who : e.who ≡ d.who
  pub call : told e.call ≡ told d.call
  pub behind : r ≡ s

pub same_entry : (e d : Entry) (r s : List ℕ) → CallWhole e.call → CallWhole d.call → entry_words e ++ r ≡ entry_words d ++ s → Same e d r s
same_entry e d r s p q t =
    let b : ◌≡◌ {A = LibraryCall × List ℕ} (told e.call, r) (told d.call, s) = sym (call_told e.call r p) ∙ ap call_at (ap (drop 1) t) ∙ call_told d.call s q in
    record { who = ap (λ y. get_or y 0 0) t; call = ap (λ y. y.0) b; behind = ap (λ y. y.1) b }

-- ---- a list of calls

abbrev pub Wholes : List Entry → Type 0
Wholes l = (k : ℕ) (d : Entry) → k < length l → CallWhole (get_or l k d).call

abbrev Callers : ℕ → List Entry → Type 0
Callers m l = (k : ℕ) (d : Entry) → k < length l → (get_or l k d).who < m

-- the calls that stand behind the first ones
record Behind (m : ℕ) (r : List ℕ) : Type 0 where
  calls : List Entry
  callers : Callers m calls
  whole : Wholes calls
  words : r ≡ entries_words calls

pub never_empty : (x : Entry) (w r : List ℕ) → (entry_words x ++ w) ++ r ≡ [] → ⊥
never_empty x w r e = omega (arith, ap length e)

behind : (m : ℕ) (l k : List Entry) (r : List ℕ) → entries_words l ++ r ≡ entries_words k → Wholes l → Callers m k → Wholes k → Behind m r
unfolding entries_words
behind m [] k r e a b c = record { calls = k; callers = b; whole = c; words = e }
behind m (x ∷ l) [] r e a b c = absurd (never_empty x (entries_words l) r e)
behind m (x ∷ l) (y ∷ k) r e a b c =
    let t = same_entry x y (entries_words l ++ r) (entries_words k) (a 0 x (omega arith)) (c 0 y (omega arith)) (sym (append_assoc (entry_words x) (entries_words l) r) ∙ e) in
    behind m l k r t.behind (λ i d h. a (suc i) d (omega (arith, h))) (λ i d h. b (suc i) d (omega (arith, h))) (λ i d h. c (suc i) d (omega (arith, h)))

no_entries : (m : ℕ) (w : List ℕ) (l : List Entry) (r : List ℕ) → w ≡ entries_words l ++ r → Wholes l → 0 < length r → NoEntry m r → NoEntries m w
unfolding entries_words
no_entries m w l r e a n z k b c q = go (behind m l k r (sym e ∙ q) a b c)
  where
    go : Behind m r → ⊥
    go s = case s.calls s.callers s.whole s.words
      where
        case : (j : List Entry) → Callers m j → Wholes j → r ≡ entries_words j → ⊥
        case [] f g p = omega (arith, n, ap length p)
        case (x ∷ j) f g p = z x (entries_words j) (f 0 x (omega arith)) (g 0 x (omega arith)) p

pub entries_unread : (m : ℕ) (w : List ℕ) (l : List Entry) (r : List ℕ) (f : Failure) → w ≡ entries_words l ++ r → Wholes l → 0 < length r → Unread (NoEntry m r) f → Unread (NoEntries m w) f
entries_unread m w l r Damaged e a n z = no_entries m w l r e a n z
entries_unread m w l r Memory e a n z = tt
entries_unread m w l r (Refused x) e a n z = z
entries_unread m w l r (Stream x) e a n z = z
