-- What a read leaves.
use Rattle.std.proofs.Common.{◌≡◌, refl, sym, ap, ◌∙◌, Bool, true, false, cond, not, ◌&&◌, List, ℕ, suc, ◌+◌, ◌/◌, ◌%◌, ◌≤◌, arith, length, set, eqb, leb, eq-eqb, ne_eqb, eqb-true, leb-true, ltb, ltb-false, get_or, is_some, Option, Some, None}
use Rattle.base.proofs.Words.{ℕ_discrete, get_or-eq_default}
use Rattle.std.proofs.lemmas.Option.{same_Some, none-some}
use Rattle.base.specs.Options.{if_there}
use Rattle.base.proofs.Bools.{both}
use Rattle.terms.specs.declared.sheet.Settings.{Settings}
use Rattle.ports.specs.Cursors.{Lines, in_line, read_to, bytes_read, cursor_of}
use Rattle.ports.specs.Places.{line_at}
use Rattle.ports.proofs.NextLaws.{cursor-back}
use Rattle.ports.proofs.BackLaws.{cursor-zero}
use Rattle.ports.specs.declared.registers.Next.{Next}
use Rattle.ports.specs.Uart.{Port, waits, values_at, takes, after_read}
use Rattle.ports.specs.Ports.{port_start, port_word, listing_of, placed_lines, port_in, is_listed, cursor_fits, FormedPort, port_words, put_port}
use Rattle.ports.specs.Bytes.{next_byte, looks_at_next}
use Rattle.ports.proofs.FitLaws.{line-listed}
use Rattle.ports.proofs.RegisterNextLaws.{cursor}
use Rattle.ports.proofs.PutLaws.{same_own, set-two}

-- ---- what the registers show of the next byte

module _ (S : Settings) (t : List ℕ) (blocks g : ℕ) where
  waits-next : is_some (next_byte S t blocks g) ≡ waits (listing_of S t blocks) (port_in S t blocks g)
  unfolding next_byte
  waits-next = go _ (waits (listing_of S t blocks) (port_in S t blocks g))
    where
      go : (v : Next) (b : Bool) → is_some (cond b (Some v) None) ≡ b
      go v true = refl
      go v false = refl

  byte-next : if_there (next_byte S t blocks g) 0 (λ (x : Next). x.byte) ≡ get_or (listing_of S t blocks) (port_in S t blocks g).read 0
  unfolding next_byte
  byte-next = go _ _ (ltb r (length l)) refl
    where
      l : List ℕ
      l = listing_of S t blocks

      r : ℕ
      r = (port_in S t blocks g).read

      go : (c d : ℕ) (b : Bool) → ltb r (length l) ≡ b → if_there (cond b (Some (record { place = c; bytes = d; byte = get_or l r 0 })) None) 0 (λ (x : Next). x.byte) ≡ get_or l r 0
      go c d true h = refl
      go c d false h = sym (get_or-eq_default l 0 {n = r} (ltb-false r (length l) h))

  module _ {n : Option Next} {o v : ℕ} (h : looks_at_next o ≡ true → n ≡ next_byte S t blocks g) where
    pub data_shown : o ≡ 0 → v ≡ cond (leb 128 (port_word t g 3)) (port_word t g 6) (if_there n 0 (λ (x : Next). x.byte)) → v ≡ get_or (values_at (listing_of S t blocks) (port_in S t blocks g)) o 0
    unfolding values_at port_in looks_at_next
    data_shown e f = rw (f, h (rw e refl), byte-next, e) refl

    pub interrupt_shown : o ≡ 2 → v ≡ cond (eqb (port_word t g 2) 1 && is_some n) 4 1 → v ≡ get_or (values_at (listing_of S t blocks) (port_in S t blocks g)) o 0
    unfolding values_at port_in looks_at_next
    interrupt_shown e f = rw (f, h (rw e refl), waits-next, e) refl

    pub status_shown : o ≡ 5 → v ≡ cond (is_some n) 97 96 → v ≡ get_or (values_at (listing_of S t blocks) (port_in S t blocks g)) o 0
    unfolding values_at port_in looks_at_next
    status_shown e f = rw (f, h (rw e refl), waits-next, e) refl

-- ---- what a read takes

module _ (S : Settings) (t : List ℕ) (blocks g : ℕ) (x : FormedPort S t blocks g) where
  abbrev lines : Lines
  lines = placed_lines S t blocks

  abbrev p : ℕ
  p = port_word t g 0

  abbrev j : ℕ
  j = port_word t g 1

  pub room : port_start g + 8 ≤ length t
  room = omega (arith, x.chain.long, x.guest)

  -- its two words tell where it stands
  pub cursor-own : cursor_of lines (bytes_read lines p j) ≡ (p, j)
  unfolding bytes_read cursor_fits
  cursor-own = go (ℕ_discrete p 0) (cursor S t blocks g x)
    where
      go : Dec (p ≡ 0) → cond (eqb p 0) (eqb j 0) (is_listed t S.ceiling blocks p && in_line j (length (line_at t (p % 16) (p / 16)))) ≡ true → cursor_of lines (cond (eqb p 0 && eqb j 0) 0 (read_to lines p j)) ≡ (p, j)
      go (yes e) f = let k : eqb j 0 ≡ true = rw (eq-eqb p 0 e) at f in rw (eq-eqb p 0 e, k) (cursor-zero lines ∙ rw (e, eqb-true j 0 k) refl)
      go (no n) f =
          let b = both (is_listed t S.ceiling blocks p) _ (rw (ne_eqb p 0 n) at f) in
          let i = both (leb 1 j) (leb j (length (line_at t (p % 16) (p / 16)))) b.1 in
          rw (ne_eqb p 0 n) (cursor-back lines p j (line_at t (p % 16) (p / 16)) (line-listed S t blocks p b.0) (leb-true 1 j i.0) (leb-true j (length (line_at t (p % 16) (p / 16))) i.1))

  -- nothing taken
  pub put_same : put_port S t blocks g (port_in S t blocks g) ≡ t
  unfolding put_port port_words port_in
  put_same = rw cursor-own (sym (same_own t g room))

  abbrev listing : List ℕ
  listing = listing_of S t blocks

  abbrev port : Port
  port = port_in S t blocks g

  -- a read that takes no byte, and one that does
  put-still : (o : ℕ) → takes listing port o ≡ false → t ≡ put_port S t blocks g (after_read listing port o)
  unfolding after_read
  put-still o e = sym (rw e put_same)

  put-taken : (o : ℕ) (n : Next) → takes listing port o ≡ true → cursor_of lines (suc port.read) ≡ (n.place, n.bytes)
      → set (set t (port_start g + 0) n.place) (port_start g + 1) n.bytes ≡ put_port S t blocks g (after_read listing port o)
  unfolding after_read put_port port_words port_in
  put-taken o n e c = rw (e, c) (set-two t g room n.place n.bytes)

  -- whether it does, by the next byte, and where the port stands then
  takes-by : (o : ℕ) → o ≡ 0 → takes listing port o ≡ (not (leb 128 (port_word t g 3)) && is_some (next_byte S t blocks g))
  unfolding port_in
  takes-by o e = rw (e, waits-next S t blocks g) refl

  stands-next : (v : Next) → next_byte S t blocks g ≡ Some v → cursor_of lines (suc port.read) ≡ (v.place, v.bytes)
  unfolding next_byte
  stands-next v e = go (waits listing port) e
    where
      c : ℕ × ℕ
      c = cursor_of lines (suc port.read)

      n : Next
      n = record { place = c.0; bytes = c.1; byte = get_or listing port.read 0 }

      go : (b : Bool) → cond b (Some n) None ≡ Some v → c ≡ (v.place, v.bytes)
      go true e = ap (λ (x : Next). (x.place, x.bytes)) (same_Some n v e)
      go false e = absurd (none-some v e)

  pub put_read : (o : ℕ) (n : Option Next) → (looks_at_next o ≡ true → n ≡ next_byte S t blocks g)
      → cond (eqb o 0 && not (leb 128 (port_word t g 3))) (if_there n t (λ (x : Next). set (set t (port_start g + 0) x.place) (port_start g + 1) x.bytes)) t
      ≡ put_port S t blocks g (after_read listing port o)
  unfolding looks_at_next
  put_read o n h = go (ℕ_discrete o 0)
    where
      by : o ≡ 0 → (b : Bool) → leb 128 (port_word t g 3) ≡ b → (m : Option Next) → next_byte S t blocks g ≡ m
          → cond (not b) (if_there m t (λ (x : Next). set (set t (port_start g + 0) x.place) (port_start g + 1) x.bytes)) t ≡ put_port S t blocks g (after_read listing port o)
      by e true d m k = put-still o (takes-by o e ∙ rw d refl)
      by e false d None k = put-still o (takes-by o e ∙ rw (d, k) refl)
      by e false d (Some v) k = put-taken o v (takes-by o e ∙ rw (d, k) refl) (stands-next v k)

      go : Dec (o ≡ 0) → cond (eqb o 0 && not (leb 128 (port_word t g 3))) (if_there n t (λ (x : Next). set (set t (port_start g + 0) x.place) (port_start g + 1) x.bytes)) t ≡ put_port S t blocks g (after_read listing port o)
      go (no f) = rw (ne_eqb o 0 f) (put-still o (rw (ne_eqb o 0 f) refl))
      go (yes e) = rw (eq-eqb o 0 e) (by e (leb 128 (port_word t g 3)) refl n (sym (h (rw e refl))))
