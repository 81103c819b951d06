-- What the code finds is the next byte of a port.
use Rattle.std.proofs.Common.{◌≡◌, refl, sym, ◌∙◌, true, List, ◌≢◌, ℕ, suc, ◌+◌, ◌/◌, ◌%◌, ◌<◌, ◌≤◌, arith, length, get_or, lt-ltb, le-ltb, Option, Some, None}
use Rattle.base.proofs.Words.{ℕ_discrete}
use Rattle.base.proofs.Bools.{both}
use Rattle.terms.specs.declared.sheet.Settings.{Settings}
use Rattle.chain_committees.specs.ChainInTable.{ChainInTable}
use Rattle.ports.specs.Cursors.{bytes_read}
use Rattle.ports.specs.Places.{line_at, HasLine}
use Rattle.ports.specs.Next.{first_place, lines_from, LinePlace}
use Rattle.ports.specs.Ports.{port_word, listing_of, placed_lines, port_in, cursor_fits, FormedPort}
use Rattle.ports.specs.Bytes.{next_byte}
use Rattle.ports.proofs.FitLaws.{port_local}
use Rattle.ports.proofs.ByteLaws.{ByteAt, NextLine, place, byte_inside, next-after, next-first}

-- a place of a line is in the table
pub has_line : (S : Settings) (t : List ℕ) (blocks p : ℕ) → ChainInTable S t blocks → LinePlace t S.ceiling blocks p → HasLine t p
has_line S t blocks p c x = record { within = record { member = omega arith; row = omega (arith, x.to, c.long) }; block = omega (arith, x.mark_to, c.few, c.long) }

module _ (S : Settings) (t : List ℕ) (blocks g : ℕ) (x : FormedPort S t blocks g) where
  abbrev p : ℕ
  p = port_word t g 0

  abbrev j : ℕ
  j = port_word t g 1

  pub cursor : cursor_fits t S.ceiling blocks p j ≡ true
  cursor = (both (cursor_fits t S.ceiling blocks p j) _ (sym (port_local S t blocks g) ∙ x.fits)).0

  pub stands : p ≢ 0 → LinePlace t S.ceiling blocks p
  stands n = place S t blocks p j cursor n

  told : (q i b : ℕ) → ByteAt S t blocks p j q i b → Some (record { place = q; bytes = i; byte = b }) ≡ next_byte S t blocks g
  unfolding next_byte port_in
  told q i b x = rw (lt-ltb (bytes_read (placed_lines S t blocks) p j) (length (listing_of S t blocks)) x.waiting, x.cursor, x.byte) refl

  -- after its end, or before the first line
  pub line-told : (p ≢ 0 → length (line_at t (p % 16) (p / 16)) ≤ j) → NextLine S t blocks p j (first_place (lines_from S t blocks p))
  line-told h = go (ℕ_discrete p 0)
    where
      go : Dec (p ≡ 0) → NextLine S t blocks p j (first_place (lines_from S t blocks p))
      go (yes e) = next-first S t blocks p j cursor e
      go (no n) = next-after S t blocks p j cursor n (h n)

  -- nothing waits, or the first byte of a line
  pub none_told : NextLine S t blocks p j None → None ≡ next_byte S t blocks g
  unfolding next_byte port_in
  none_told l = rw (le-ltb (bytes_read (placed_lines S t blocks) p j) (length (listing_of S t blocks)) (omega (arith, l))) refl

  pub line_found : {q : ℕ} → NextLine S t blocks p j (Some q) → HasLine t q
  line_found l = has_line S t blocks _ x.chain l.0

  pub first_told : {q y : ℕ} → NextLine S t blocks p j (Some q) → y ≡ get_or (line_at t (q % 16) (q / 16)) 0 0 → Some (record { place = q; bytes = 1; byte = y }) ≡ next_byte S t blocks g
  first_told {q} l e = rw e (told q 1 _ l.1)

  -- ---- the same, of two numbers that are these words

  module _ {a : ℕ} {b : ℕ} (e : a ≡ p) (f : b ≡ j) where
    pub stands_at : a ≢ 0 → LinePlace t S.ceiling blocks a
    stands_at n = rw e (stands (λ z. n (e ∙ z)))

    pub inside_at : {y : ℕ} → a ≢ 0 → b < length (line_at t (a % 16) (a / 16)) → y ≡ get_or (line_at t (a % 16) (a / 16)) b 0 → Some (record { place = a; bytes = b + 1; byte = y }) ≡ next_byte S t blocks g
    inside_at n h l =
        let z : j + 1 ≡ suc j = omega arith in
        rw (l, e, f, z) (told p (suc j) _ (byte_inside S t blocks p j cursor (λ z. n (e ∙ z)) (rw (e, f) at h)))

    pub next_line_at : {v : Option ℕ} → v ≡ first_place (lines_from S t blocks a) → (a ≢ 0 → length (line_at t (a % 16) (a / 16)) ≤ b) → NextLine S t blocks p j v
    next_line_at y h = rw (y, e) (line-told (λ n. rw (e, f) at (h (λ z. n (sym e ∙ z)))))
