-- The next byte of a port: the next one of its line, or the first of the next line, or none.
use Rattle.std.proofs.Common.{◌≡◌, refl, sym, ap, ◌∙◌, Bool, true, false, cond, ◌&&◌, List, [], ◌∷◌, ◌++◌, ◌≢◌, ℕ, suc, ◌+◌, ◌/◌, ◌%◌, ◌<◌, ◌≤◌, arith, length, length-append, get_or, eqb, leb, eq-eqb, ne_eqb, leb-true, le-leb, Option, Some, None}
use Rattle.base.proofs.Words.{get_or-append}
use Rattle.base.proofs.Bools.{both}
use Rattle.terms.specs.declared.sheet.Settings.{Settings}
use Rattle.committee.specs.Chain.{chain_of}
use Rattle.store.specs.Table.{mark_at, block_round, content_at}
use Rattle.listing.specs.Lines.{decimal, number_field, triples_fields, crlf}
use Rattle.ports.specs.Cursors.{Lines, text, line_of, lines_after, in_line, read_to, bytes_read, cursor_of}
use Rattle.ports.specs.Places.{line_at}
use Rattle.ports.specs.Next.{first_place, lines_from, LinePlace}
use Rattle.ports.proofs.CursorLaws.{here-fits, same_line, next-line}
use Rattle.ports.proofs.PlaceLaws.{text_lines}
use Rattle.ports.proofs.OnceLaws.{once-chain}
use Rattle.ports.proofs.NextLaws.{line-here, read_first, follows, line-follows, cursor-back}
use Rattle.ports.specs.Ports.{listing_of, placed_lines, is_listed, cursor_fits}
use Rattle.ports.proofs.FitLaws.{listed_place, line-listed, listed-line}

-- a line has bytes
ends : (a : List ℕ) → 1 ≤ length (a ++ crlf)
ends a = omega (arith, length-append a crlf)

pub line_long : (t : List ℕ) (m r : ℕ) → 1 ≤ length (line_at t m r)
unfolding line_at
line_long t m r = ends (decimal (mark_at t m r) ++ number_field (block_round t (mark_at t m r)) ++ number_field r ++ number_field m ++ triples_fields (content_at t m r).transactions)

no_text : length (text []) ≡ 0
unfolding text
no_text = refl

first_byte : (q : ℕ) (v : List ℕ) (m : Lines) → 1 ≤ length v → get_or (text ((q, v) ∷ m)) 0 0 ≡ get_or v 0 0
unfolding text
first_byte q v m h = get_or-append v (text m) 0 0 h

module _ (S : Settings) (t : List ℕ) (blocks p j : ℕ) where
  abbrev lines : Lines
  lines = placed_lines S t blocks

  abbrev n : ℕ
  n = S.ceiling

  abbrev read : ℕ
  read = bytes_read lines p j

  -- what the next byte is, where it is byte i of the line of place q, counted from 1
  pub record ByteAt (q i b : ℕ) : Type 0 where
    pub waiting : read < length (listing_of S t blocks)
    pub byte : get_or (listing_of S t blocks) read 0 ≡ b
    pub then : bytes_read lines q i ≡ suc read
    pub cursor : cursor_of lines (suc read) ≡ (q, i)

  abbrev line_in : ℕ → List ℕ
  line_in q = line_at t (q % 16) (q / 16)

  -- a byte of a line is one of the listing
  within : (q i : ℕ) → is_listed t n blocks q ≡ true → 1 ≤ i → i ≤ length (line_in q) → read_to lines q i ≤ length (listing_of S t blocks)
  within q i h a b =
      rw (← text_lines S (chain_of n t blocks))
      (leb-true (read_to lines q i) (length (text lines)) (here-fits lines q i (line_in q) (line-listed S t blocks q h) ∙ rw (le-leb 1 i a, le-leb i (length (line_in q)) b) refl))

  -- where it is the next one
  byte_at : (q i b : ℕ) → is_listed t n blocks q ≡ true → 1 ≤ i → i ≤ length (line_in q) → read_to lines q i ≡ suc read → get_or (text lines) read 0 ≡ b → ByteAt q i b
  unfolding bytes_read
  byte_at q i b h u v e f =
      let w = within q i h u v in
      let z : bytes_read lines q i ≡ read_to lines q i = read_by q i u in
      record {
        waiting = omega (arith, e, w);
        byte = rw (← text_lines S (chain_of n t blocks)) f;
        then = z ∙ e;
        cursor = ap (cursor_of lines) (sym e) ∙ cursor-back lines q i (line_in q) (line-listed S t blocks q h) u v;
      }
    where
      read_by : (q i : ℕ) → 1 ≤ i → bytes_read lines q i ≡ read_to lines q i
      read_by q i u = go (eqb q 0)
        where
          go : (b : Bool) → cond (b && eqb i 0) 0 (read_to lines q i) ≡ read_to lines q i
          go true = rw (ne_eqb i 0 (λ x. absurd (omega arith))) refl
          go false = refl

  -- before the first byte nothing is read
  start : cursor_fits t n blocks p j ≡ true → p ≡ 0 → read ≡ 0
  unfolding cursor_fits bytes_read
  start fits z = let e : eqb j 0 ≡ true = rw (eq-eqb p 0 z) at fits in rw (eq-eqb p 0 z, e) refl

  module _ (fits : cursor_fits t n blocks p j ≡ true) (some_read : p ≢ 0) where
    here : is_listed t n blocks p ≡ true
    unfolding cursor_fits
    here = (both (is_listed t n blocks p) _ (rw (ne_eqb p 0 some_read) at fits)).0

    pub within_line : in_line j (length (line_at t (p % 16) (p / 16))) ≡ true
    unfolding cursor_fits
    within_line = (both (is_listed t n blocks p) _ (rw (ne_eqb p 0 some_read) at fits)).1

    pub place : LinePlace t n blocks p
    place = listed_place t n blocks p here

    read_is : (i : ℕ) → bytes_read lines p i ≡ read_to lines p i
    unfolding bytes_read
    read_is i = rw (ne_eqb p 0 some_read) refl

    from : 1 ≤ j
    from = leb-true 1 j (both (leb 1 j) (leb j (length (line_in p))) within_line).0

    to : j ≤ length (line_in p)
    to = leb-true j (length (line_in p)) (both (leb 1 j) (leb j (length (line_in p))) within_line).1

    -- inside its line
    pub byte_inside : j < length (line_in p) → ByteAt p (suc j) (get_or (line_in p) j 0)
    byte_inside h =
        let x = same_line lines p j (line_in p) (line-listed S t blocks p here) from h in
        byte_at p (suc j) (get_or (line_in p) j 0) here (omega arith) (omega arith) (rw (read_is j) x.0) (rw (read_is j) x.1)

    -- at its end: the first byte of the next line
    pub byte_next : length (line_in p) ≤ j → (q : ℕ) (v : List ℕ) (m : Lines) → lines_after lines p ≡ (q, v) ∷ m → is_listed t n blocks q ≡ true → v ≡ line_in q → ByteAt q 1 (get_or (line_in q) 0 0)
    byte_next h q v m x i e =
        let l = line-listed S t blocks p here in
        let a = line_long t (p % 16) (p / 16) in
        let b = line_long t (q % 16) (q / 16) in
        let z : j ≡ length (line_in p) = omega (arith, to) in
        let f = follows lines (once-chain S t blocks) p (line_in p) q (line_in q) m l a b (x ∙ ap (λ (y : List ℕ). (q, y) ∷ m) e) in
        let g = next-line lines p (line_in p) l a in
        byte_at q 1 (get_or (line_in q) 0 0) i (omega arith) b
        (rw (read_is j, z) f.read)
        (rw (read_is j, z) (g.1 ∙ ap (λ (y : Lines). get_or (text y) 0 0) x ∙ first_byte q v m (rw e b) ∙ rw e refl))

    -- or none
    pub byte-none : length (line_in p) ≤ j → lines_after lines p ≡ [] → read ≡ length (listing_of S t blocks)
    byte-none h x =
        let l = line-listed S t blocks p here in
        let z : j ≡ length (line_in p) = omega (arith, to) in
        let g = next-line lines p (line_in p) l (line_long t (p % 16) (p / 16)) in
        rw (read_is j, z, ← text_lines S (chain_of n t blocks)) (omega (arith, g.0 ∙ ap (λ (y : Lines). read_to lines p (length (line_in p)) + length (text y)) x, no_text))

  -- ---- after the last byte of a line, or before the first: what the search for the next line tells

  -- nothing more waits where it has found none, else the first byte of the line of its place
  abbrev pub NextLine : Option ℕ → Type 0
  NextLine None = read ≡ length (listing_of S t blocks)
  NextLine (Some q) = LinePlace t n blocks q × ByteAt q 1 (get_or (line_in q) 0 0)

  found : (q : ℕ) → is_listed t n blocks q ≡ true → ByteAt q 1 (get_or (line_in q) 0 0) → NextLine (Some q)
  found q h b = (listed_place t n blocks q h, b)

  pub next-after : cursor_fits t n blocks p j ≡ true → p ≢ 0 → length (line_in p) ≤ j → NextLine (first_place (lines_from S t blocks p))
  unfolding lines_from
  next-after fits s h = rw (ne_eqb p 0 s) (go (lines_after lines p) refl)
    where
      go : (l : Lines) → lines_after lines p ≡ l → NextLine (first_place l)
      go [] x = byte-none fits s h x
      go (e ∷ m) x =
          let y = listed-line S t blocks e.0 e.1 (line-follows lines (once-chain S t blocks) p (line_in p) e.0 e.1 m (line-listed S t blocks p (here fits s)) x) in
          found e.0 y.0 (byte_next fits s h e.0 e.1 m x y.0 y.1)

  pub next-first : cursor_fits t n blocks p j ≡ true → p ≡ 0 → NextLine (first_place (lines_from S t blocks p))
  unfolding lines_from
  next-first fits z = rw (eq-eqb p 0 z) (go lines refl)
    where
      none_read : read ≡ 0
      none_read = start fits z

      go : (l : Lines) → lines ≡ l → NextLine (first_place l)
      go [] x = none_read ∙ sym (ap length (sym (text_lines S (chain_of n t blocks)) ∙ ap text x) ∙ no_text)
      go (e ∷ m) x =
          let y = listed-line S t blocks e.0 e.1 (ap (λ (l : Lines). line_of l e.0) x ∙ line-here e m) in
          let b = line_long t (e.0 % 16) (e.0 / 16) in
          let k : 1 ≤ length e.1 = rw y.1 b in
          found e.0 y.0
          (byte_at e.0 1 (get_or (line_in e.0) 0 0) y.0 (omega arith) b
          (ap (λ (l : Lines). read_to l e.0 1) x ∙ read_first e m k ∙ ap suc (sym none_read))
          (ap (λ (i : ℕ). get_or (text lines) i 0) none_read ∙ ap (λ (l : Lines). get_or (text l) 0 0) x ∙ first_byte e.0 e.1 m k ∙ ap (λ (w : List ℕ). get_or w 0 0) y.1))
