-- Words at which no part of a list stands: they are too few, or a word is none that stands there.
use Rattle.std.proofs.Common.{◌≡◌, ◌≢◌, ℕ, suc, ◌*◌, ◌-◌, ◌<◌, ◌≤◌, List, [], ◌∷◌, ◌++◌, get_or, drop, length, refl, sym, ap, ◌∙◌, length-append, arith}
use Rattle.batching.specs.declared.rows.CertificateRecord.{CertificateRecord}
use Rattle.batching.specs.Rows.{record_words}
use Rattle.replaying.specs.declared.calls.HostCall.{HostCall}
use Rattle.replaying.specs.declared.calls.HostCall.TheVariants as host
use Rattle.replaying.specs.declared.calls.GuestCall.{GuestCall}
use Rattle.replaying.specs.declared.calls.GuestCall.TheVariants as guest
use Rattle.replaying.specs.declared.calls.Call.{Call}
use Rattle.replaying.specs.declared.calls.Call.TheVariants.{Host, Guest}
use Rattle.replaying.specs.declared.calls.Entry.{Entry}
use Rattle.replaying.specs.declared.failure.Failure.{Failure}
use Rattle.replaying.specs.declared.failure.Failure.TheVariants.{Damaged, Refused, Memory, Stream}
use Rattle.replaying.specs.declared.heads.TheConstants.{MARK}
use Rattle.replaying.specs.Lists.{rows_words, host_words, guest_words, call_words, entry_words, RecordWhole, HostWhole, GuestWhole, CallWhole, NoRow, NoHost, NoGuest, NoEntry, NoHead, Unread}

-- a certificate has seventeen words
pub record_long : (e : CertificateRecord) → RecordWhole e → length (record_words e) ≡ 17
unfolding record_words
record_long e h = omega (arith, h, length-append e.body (e.endorsers ∷ []))

-- and a row so many times seventeen
pub rows_long : (l : List CertificateRecord) → ((k : ℕ) (d : CertificateRecord) → k < length l → RecordWhole (get_or l k d)) → length (rows_words l) ≡ 17 * length l
unfolding rows_words
rows_long [] h = refl
rows_long (e ∷ l) h =
    omega (arith, length-append (record_words e) (rows_words l), record_long e (h 0 e (omega arith)), rows_long l (λ k d b. h (suc k) d (omega (arith, b))))

-- ---- a row

-- the words end at a certificate of the row
pub rows_unread : (w : List ℕ) (l : List CertificateRecord) (n : ℕ) (r : List ℕ) (f : Failure) → w ≡ rows_words l ++ r → ((k : ℕ) (d : CertificateRecord) → k < length l → RecordWhole (get_or l k d)) → length l < n → f ≡ Damaged → length r < 17 → Unread (length w < 17 * n) f
rows_unread w l n r f e h b q s = rw (q, e) (omega (arith, length-append (rows_words l) r, rows_long l h, b, s))

pub no_row_empty : (w : List ℕ) → w ≡ [] → NoRow w
no_row_empty w n l r h e = omega (arith, sym (ap length n) ∙ ap length e)

pub row_unread : (n : ℕ) (w v : List ℕ) (f : Failure) → v ≡ n ∷ w → Unread (length w < 17 * n) f → Unread (NoRow v) f
row_unread n w v Damaged q u = λ l r h e.
    let t = sym q ∙ e in
    let c = ap (λ x. get_or x 0 0) t in
    let m = ap length t in
    omega (arith, u, c, m, length-append (rows_words l) r, rows_long l h)
row_unread n w v Memory q u = tt
row_unread n w v (Refused m) q u = u
row_unread n w v (Stream x) q u = u

-- ---- a call

-- how many words stand behind the number of a host's call at least, by that number; and behind the caller of a guest's
abbrev host_rooms : List ℕ
host_rooms = 14 ∷ 1 ∷ 4 ∷ 16 ∷ 1 ∷ 17 ∷ 1 ∷ 0 ∷ 0 ∷ 1 ∷ []

abbrev guest_rooms : List ℕ
guest_rooms = 14 ∷ 1 ∷ 3 ∷ 16 ∷ 1 ∷ 17 ∷ 1 ∷ 0 ∷ 0 ∷ 1 ∷ 2 ∷ []

module _ (n : ℕ) (w r : List ℕ) where
  host_begins : (c : HostCall) → HostWhole c → n ∷ w ≡ host_words c ++ r → (n < 10) × (get_or host_rooms n 0 ≤ length w)
  host_begins (host.Propose x) h e = let q = ap (λ y. get_or y 0 0) e in let m = ap length e in rw q (omega arith, omega (arith, m, h, length-append x r))
  host_begins (host.Draw v) h e = let q = ap (λ y. get_or y 0 0) e in let m = ap length e in rw q (omega arith, omega (arith, m))
  host_begins (host.Enqueue g x) h e = let q = ap (λ y. get_or y 0 0) e in let m = ap length e in rw q (omega arith, omega (arith, m, h, length-append x r))
  host_begins (host.Endorse x) h e = let q = ap (λ y. get_or y 0 0) e in let m = ap length e in rw q (omega arith, omega (arith, m, h, length-append x r))
  host_begins (host.Certify v) h e = let q = ap (λ y. get_or y 0 0) e in let m = ap length e in rw q (omega arith, omega (arith, m))
  host_begins (host.Accept x) h e = let q = ap (λ y. get_or y 0 0) e in let m = ap length e in rw q (omega arith, omega (arith, m, h, length-append x r))
  host_begins (host.Batch x) h e = let q = ap (λ y. get_or y 0 0) e in let m = ap length e in rw q (omega arith, omega (arith, m))
  host_begins host.Advance h e = let q = ap (λ y. get_or y 0 0) e in rw q (omega arith, omega arith)
  host_begins host.Commit h e = let q = ap (λ y. get_or y 0 0) e in rw q (omega arith, omega arith)
  host_begins (host.PortReset g) h e = let q = ap (λ y. get_or y 0 0) e in let m = ap length e in rw q (omega arith, omega (arith, m))

pub no_host : (n : ℕ) (w : List ℕ) (f : Failure) → f ≡ Damaged → length w < get_or host_rooms n 0 → Unread (NoHost n w) f
no_host n w f q s = rw q (λ c r h e. let b = host_begins n w r c h e in omega (arith, s, b.1))

pub no_host_above : (n : ℕ) (w : List ℕ) → 9 < n → NoHost n w
no_host_above n w a c r h e = let b = host_begins n w r c h e in omega (arith, a, b.0)

-- a host's batch by its row
no_host_row : (w : List ℕ) → NoRow w → NoHost 6 w
no_host_row w u (host.Batch x) r h e = u x.items r h (ap (drop 1) e)
no_host_row w u (host.Propose x) r h e = omega (arith, ap (λ y. get_or y 0 0) e)
no_host_row w u (host.Draw v) r h e = omega (arith, ap (λ y. get_or y 0 0) e)
no_host_row w u (host.Enqueue g x) r h e = omega (arith, ap (λ y. get_or y 0 0) e)
no_host_row w u (host.Endorse x) r h e = omega (arith, ap (λ y. get_or y 0 0) e)
no_host_row w u (host.Certify v) r h e = omega (arith, ap (λ y. get_or y 0 0) e)
no_host_row w u (host.Accept x) r h e = omega (arith, ap (λ y. get_or y 0 0) e)
no_host_row w u host.Advance r h e = omega (arith, ap (λ y. get_or y 0 0) e)
no_host_row w u host.Commit r h e = omega (arith, ap (λ y. get_or y 0 0) e)
no_host_row w u (host.PortReset g) r h e = omega (arith, ap (λ y. get_or y 0 0) e)

pub host_row : (w : List ℕ) (f : Failure) → Unread (NoRow w) f → Unread (NoHost 6 w) f
host_row w Damaged u = no_host_row w u
host_row w Memory u = tt
host_row w (Refused m) u = u
host_row w (Stream x) u = u

module _ (n g : ℕ) (w r : List ℕ) where
  guest_begins : (c : GuestCall) → GuestWhole c → n ∷ g ∷ w ≡ guest_words g c ++ r → (15 < n) × (n < 27) × (get_or guest_rooms (n - 16) 0 ≤ length w)
  guest_begins (guest.Propose x) h e = let q = ap (λ y. get_or y 0 0) e in let m = ap length e in rw q (omega arith, omega arith, omega (arith, m, h, length-append x r))
  guest_begins (guest.Draw v) h e = let q = ap (λ y. get_or y 0 0) e in let m = ap length e in rw q (omega arith, omega arith, omega (arith, m))
  guest_begins (guest.Enqueue x) h e = let q = ap (λ y. get_or y 0 0) e in let m = ap length e in rw q (omega arith, omega arith, omega (arith, m, h, length-append x r))
  guest_begins (guest.Endorse x) h e = let q = ap (λ y. get_or y 0 0) e in let m = ap length e in rw q (omega arith, omega arith, omega (arith, m, h, length-append x r))
  guest_begins (guest.Certify v) h e = let q = ap (λ y. get_or y 0 0) e in let m = ap length e in rw q (omega arith, omega arith, omega (arith, m))
  guest_begins (guest.Accept x) h e = let q = ap (λ y. get_or y 0 0) e in let m = ap length e in rw q (omega arith, omega arith, omega (arith, m, h, length-append x r))
  guest_begins (guest.Batch x) h e = let q = ap (λ y. get_or y 0 0) e in let m = ap length e in rw q (omega arith, omega arith, omega (arith, m))
  guest_begins guest.Advance h e = let q = ap (λ y. get_or y 0 0) e in rw q (omega arith, omega arith, omega arith)
  guest_begins guest.Commit h e = let q = ap (λ y. get_or y 0 0) e in rw q (omega arith, omega arith, omega arith)
  guest_begins (guest.PortRead o) h e = let q = ap (λ y. get_or y 0 0) e in let m = ap length e in rw q (omega arith, omega arith, omega (arith, m))
  guest_begins (guest.PortWrite o b) h e = let q = ap (λ y. get_or y 0 0) e in let m = ap length e in rw q (omega arith, omega arith, omega (arith, m))

pub no_guest : (n g : ℕ) (w : List ℕ) (f : Failure) → f ≡ Damaged → length w < get_or guest_rooms (n - 16) 0 → Unread (NoGuest n g w) f
no_guest n g w f q s = rw q (λ c r h e. let b = guest_begins n g w r c h e in omega (arith, s, b.2))

pub no_guest_below : (n g : ℕ) (w : List ℕ) → n < 16 → NoGuest n g w
no_guest_below n g w a c r h e = let b = guest_begins n g w r c h e in omega (arith, a, b.0)

pub no_guest_above : (n g : ℕ) (w : List ℕ) → 26 < n → NoGuest n g w
no_guest_above n g w a c r h e = let b = guest_begins n g w r c h e in omega (arith, a, b.1)

-- a guest's batch by its row
no_guest_row : (g : ℕ) (w : List ℕ) → NoRow w → NoGuest 22 g w
no_guest_row g w u (guest.Batch x) r h e = u x.items r h (ap (drop 2) e)
no_guest_row g w u (guest.Propose x) r h e = omega (arith, ap (λ y. get_or y 0 0) e)
no_guest_row g w u (guest.Draw v) r h e = omega (arith, ap (λ y. get_or y 0 0) e)
no_guest_row g w u (guest.Enqueue x) r h e = omega (arith, ap (λ y. get_or y 0 0) e)
no_guest_row g w u (guest.Endorse x) r h e = omega (arith, ap (λ y. get_or y 0 0) e)
no_guest_row g w u (guest.Certify v) r h e = omega (arith, ap (λ y. get_or y 0 0) e)
no_guest_row g w u (guest.Accept x) r h e = omega (arith, ap (λ y. get_or y 0 0) e)
no_guest_row g w u guest.Advance r h e = omega (arith, ap (λ y. get_or y 0 0) e)
no_guest_row g w u guest.Commit r h e = omega (arith, ap (λ y. get_or y 0 0) e)
no_guest_row g w u (guest.PortRead o) r h e = omega (arith, ap (λ y. get_or y 0 0) e)
no_guest_row g w u (guest.PortWrite o b) r h e = omega (arith, ap (λ y. get_or y 0 0) e)

pub guest_row : (g : ℕ) (w : List ℕ) (f : Failure) → Unread (NoRow w) f → Unread (NoGuest 22 g w) f
guest_row g w Damaged u = no_guest_row g w u
guest_row g w Memory u = tt
guest_row g w (Refused m) u = u
guest_row g w (Stream x) u = u

-- a write of what is no byte
pub no_write : (g o : ℕ) (w v : List ℕ) (f : Failure) → f ≡ Damaged → w ≡ o ∷ v → 255 < get_or v 0 256 → Unread (NoGuest 26 g w) f
no_write g o w v f q k s = rw q (λ c r h e. go c r h (sym (ap (drop 1) k) ∙ ap (drop 3) e) (ap (λ y. get_or y 0 0) e))
  where
    go : (c : GuestCall) (r : List ℕ) → GuestWhole c → v ≡ drop 3 (guest_words g c ++ r) → 26 ≡ get_or (guest_words g c ++ r) 0 0 → ⊥
    go (guest.PortWrite o b) r h e z = omega (arith, s, h, ap (λ y. get_or y 0 256) e)
    go (guest.Propose x) r h e z = omega (arith, z)
    go (guest.Draw y) r h e z = omega (arith, z)
    go (guest.Enqueue x) r h e z = omega (arith, z)
    go (guest.Endorse x) r h e z = omega (arith, z)
    go (guest.Certify y) r h e z = omega (arith, z)
    go (guest.Accept x) r h e z = omega (arith, z)
    go (guest.Batch x) r h e z = omega (arith, z)
    go guest.Advance r h e z = omega (arith, z)
    go guest.Commit r h e z = omega (arith, z)
    go (guest.PortRead y) r h e z = omega (arith, z)

-- ---- an entry

-- a host's call begins with a number below 10
host_low : (c : HostCall) (r : List ℕ) → (get_or (host_words c ++ r) 0 0 < 10) × (0 < length (host_words c ++ r))
host_low (host.Propose x) r = (omega arith, omega arith)
host_low (host.Draw v) r = (omega arith, omega arith)
host_low (host.Enqueue g x) r = (omega arith, omega arith)
host_low (host.Endorse x) r = (omega arith, omega arith)
host_low (host.Certify v) r = (omega arith, omega arith)
host_low (host.Accept x) r = (omega arith, omega arith)
host_low (host.Batch x) r = (omega arith, omega arith)
host_low host.Advance r = (omega arith, omega arith)
host_low host.Commit r = (omega arith, omega arith)
host_low (host.PortReset g) r = (omega arith, omega arith)

-- a guest's with one above 15, and the caller
guest_high : (g : ℕ) (c : GuestCall) (r : List ℕ) → (15 < get_or (guest_words g c ++ r) 0 0) × (1 < length (guest_words g c ++ r))
guest_high g (guest.Propose x) r = (omega arith, omega arith)
guest_high g (guest.Draw v) r = (omega arith, omega arith)
guest_high g (guest.Enqueue x) r = (omega arith, omega arith)
guest_high g (guest.Endorse x) r = (omega arith, omega arith)
guest_high g (guest.Certify v) r = (omega arith, omega arith)
guest_high g (guest.Accept x) r = (omega arith, omega arith)
guest_high g (guest.Batch x) r = (omega arith, omega arith)
guest_high g guest.Advance r = (omega arith, omega arith)
guest_high g guest.Commit r = (omega arith, omega arith)
guest_high g (guest.PortRead o) r = (omega arith, omega arith)
guest_high g (guest.PortWrite o b) r = (omega arith, omega arith)

-- the caller stands behind the number
caller_at : (d : ℕ) (c : GuestCall) (r : List ℕ) (k : ℕ) (u : List ℕ) → k ∷ u ≡ guest_words d c ++ r → get_or u 0 0 ≡ d
caller_at d (guest.Propose x) r k u q = ap (λ y. get_or y 1 0) q
caller_at d (guest.Draw v) r k u q = ap (λ y. get_or y 1 0) q
caller_at d (guest.Enqueue x) r k u q = ap (λ y. get_or y 1 0) q
caller_at d (guest.Endorse x) r k u q = ap (λ y. get_or y 1 0) q
caller_at d (guest.Certify v) r k u q = ap (λ y. get_or y 1 0) q
caller_at d (guest.Accept x) r k u q = ap (λ y. get_or y 1 0) q
caller_at d (guest.Batch x) r k u q = ap (λ y. get_or y 1 0) q
caller_at d guest.Advance r k u q = ap (λ y. get_or y 1 0) q
caller_at d guest.Commit r k u q = ap (λ y. get_or y 1 0) q
caller_at d (guest.PortRead o) r k u q = ap (λ y. get_or y 1 0) q
caller_at d (guest.PortWrite o b) r k u q = ap (λ y. get_or y 1 0) q

pub no_entry_empty : (m : ℕ) (w : List ℕ) → w ≡ [] → NoEntry m w
no_entry_empty m w n x r b h e = omega (arith, sym (ap length n) ∙ ap length e)

pub no_entry_member : (m who : ℕ) (w v : List ℕ) → w ≡ who ∷ v → m ≤ who → NoEntry m w
no_entry_member m who w v n a x r b h e = omega (arith, a, b, sym (ap (λ y. get_or y 0 0) n) ∙ ap (λ y. get_or y 0 0) e)

module _ (m who : ℕ) (w v : List ℕ) (n : w ≡ who ∷ v) where
  -- nothing behind the member
  pub no_entry_number : v ≡ [] → NoEntry m w
  no_entry_number s x r b h e = go x.call (sym (ap (drop 1) n) ∙ ap (drop 1) e)
    where
      go : (c : Call) → v ≡ call_words c ++ r → ⊥
      go (Host c) q = let l = host_low c r in omega (arith, l.1, sym (ap length s) ∙ ap length q)
      go (Guest g c) q = let l = guest_high g c r in omega (arith, l.1, sym (ap length s) ∙ ap length q)

  module _ (k : ℕ) (u : List ℕ) (i : v ≡ k ∷ u) where
    behind : (x : Entry) (r : List ℕ) → w ≡ entry_words x ++ r → k ∷ u ≡ call_words x.call ++ r
    behind x r e = sym i ∙ sym (ap (drop 1) n) ∙ ap (drop 1) e

    -- a guest's call without its caller
    pub no_entry_caller : 16 ≤ k → u ≡ [] → NoEntry m w
    no_entry_caller a s x r b h e = go x.call (behind x r e)
      where
        go : (c : Call) → k ∷ u ≡ call_words c ++ r → ⊥
        go (Host c) q = let l = host_low c r in omega (arith, a, l.0, ap (λ y. get_or y 0 0) q)
        go (Guest g c) q = let l = guest_high g c r in omega (arith, l.1, ap length s, ap length q)

    no_host_entry : k < 16 → NoHost k u → NoEntry m w
    no_host_entry a z x r b h e = go x.call h (behind x r e)
      where
        go : (c : Call) → CallWhole c → k ∷ u ≡ call_words c ++ r → ⊥
        go (Host c) h q = z c r h q
        go (Guest g c) h q = let l = guest_high g c r in omega (arith, a, l.0, ap (λ y. get_or y 0 0) q)

    no_guest_entry : (g : ℕ) (t : List ℕ) → u ≡ g ∷ t → 16 ≤ k → NoGuest k g t → NoEntry m w
    no_guest_entry g t j a z x r b h e = go x.call h (behind x r e)
      where
        go : (c : Call) → CallWhole c → k ∷ u ≡ call_words c ++ r → ⊥
        go (Host c) h q = let l = host_low c r in omega (arith, a, l.0, ap (λ y. get_or y 0 0) q)
        go (Guest d c) h q =
            let o : g ≡ d = sym (ap (λ y. get_or y 0 0) j) ∙ caller_at d c r k u q in
            z c r h (rw (sym o) at (rw j at q))

    pub host_entry_unread : (f : Failure) → k < 16 → Unread (NoHost k u) f → Unread (NoEntry m w) f
    host_entry_unread Damaged a z = no_host_entry a z
    host_entry_unread Memory a z = tt
    host_entry_unread (Refused x) a z = z
    host_entry_unread (Stream x) a z = z

    pub guest_entry_unread : (g : ℕ) (t : List ℕ) (f : Failure) → u ≡ g ∷ t → 16 ≤ k → Unread (NoGuest k g t) f → Unread (NoEntry m w) f
    guest_entry_unread g t Damaged j a z = no_guest_entry g t j a z
    guest_entry_unread g t Memory j a z = tt
    guest_entry_unread g t (Refused x) j a z = z
    guest_entry_unread g t (Stream x) j a z = z

-- ---- the head

pub no_head : (w : List ℕ) → length w < 43 → NoHead w
no_head w s h r l e = omega (arith, s, l, ap length e, length-append h.sheet r)

pub no_head_mark : (w v : List ℕ) (x : ℕ) → w ≡ x ∷ v → x ≢ MARK → NoHead w
no_head_mark w v x n d h r l e = d (sym (ap (λ y. get_or y 0 0) n) ∙ ap (λ y. get_or y 0 0) e)
