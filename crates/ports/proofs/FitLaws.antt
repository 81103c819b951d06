-- Two words alone tell whether a port has read past the listing's end.
use Rattle.std.proofs.Common.{◌≡◌, refl, sym, ap, ◌∙◌, Bool, true, false, cond, ◌&&◌, true≢false, List, ℕ, ◌+◌, ◌*◌, ◌/◌, ◌%◌, arith, length, get_or, eqb, leb, ltb, eq-eqb, ne_eqb, leb-true, ltb-true, le-leb, lt-ltb, Some, None}
use Rattle.std.proofs.lemmas.Option.{same_Some, none-some}
use Rattle.base.proofs.Words.{ℕ_discrete}
use Rattle.base.specs.Folds.{all_to}
use Rattle.base.proofs.Bools.{both}
use Rattle.terms.specs.declared.sheet.Settings.{Settings}
use Rattle.store.specs.Table.{held_at, mark_at}
use Rattle.committee.specs.Chain.{chain_of}
use Rattle.ports.specs.Cursors.{text, line_of, in_line, read_to, bytes_read}
use Rattle.ports.specs.Places.{line_at}
use Rattle.ports.specs.Next.{LinePlace}
use Rattle.ports.proofs.CursorLaws.{here-fits, nowhere_fits}
use Rattle.ports.proofs.PlaceLaws.{text_lines}
use Rattle.ports.proofs.LineLaws.{Listed, listed, unlisted}
use Rattle.ports.proofs.OnceLaws.{by_place}
use Rattle.ports.specs.Uart.{limits, registers_fit}
use Rattle.ports.specs.Ports.{port_word, listing_of, placed_lines, port_in, port_fits, is_listed, cursor_fits}

-- what the test of a place tells
pub listed_place : (t : List ℕ) (n blocks p : ℕ) → is_listed t n blocks p ≡ true → LinePlace t n blocks p
unfolding is_listed
listed_place t n blocks p e =
    let a = both (leb 16 p) _ e in
    let b = both (ltb p (n * 16 + 16)) _ a.1 in
    let c = both (held_at t (p % 16) (p / 16)) _ b.1 in
    let d = both (leb 1 (mark_at t (p % 16) (p / 16))) _ c.1 in
    record {
      from = leb-true 16 p a.0;
      to = ltb-true p (n * 16 + 16) b.0;
      held = c.0;
      mark_from = leb-true 1 (mark_at t (p % 16) (p / 16)) d.0;
      mark_to = leb-true (mark_at t (p % 16) (p / 16)) blocks d.1;
    }

module _ (S : Settings) (t : List ℕ) (blocks : ℕ) where
  abbrev n : ℕ
  n = S.ceiling

  -- the test of a place
  pub is-listed : (p : ℕ) → is_listed t n blocks p ≡ true → Listed S t blocks (p % 16) (p / 16)
  is-listed p e =
      let x = listed_place t n blocks p e in
      record { member = omega arith; from = omega (arith, x.from); to = omega (arith, x.to); held = x.held; mark_from = x.mark_from; mark_to = x.mark_to }

  pub listed-is : (p : ℕ) → Listed S t blocks (p % 16) (p / 16) → is_listed t n blocks p ≡ true
  unfolding is_listed
  listed-is p x =
      rw (
        le-leb 16 p (omega (arith, x.from)),
        lt-ltb p (n * 16 + 16) (omega (arith, x.to)),
        x.held,
        le-leb 1 (mark_at t (p % 16) (p / 16)) x.mark_from,
        le-leb (mark_at t (p % 16) (p / 16)) blocks x.mark_to,
      )
      refl

  -- the line of a place, by the test
  pub line-listed : (p : ℕ) → is_listed t n blocks p ≡ true → line_of (placed_lines S t blocks) p ≡ Some (line_at t (p % 16) (p / 16))
  line-listed p e = rw (by_place p) at (listed S t blocks (p % 16) (p / 16) (is-listed p e))

  line-unlisted : (p : ℕ) → is_listed t n blocks p ≡ false → line_of (placed_lines S t blocks) p ≡ None
  line-unlisted p e = rw (by_place p) at (unlisted S t blocks (p % 16) (p / 16) (omega arith) (λ x. true≢false (sym (listed-is p x) ∙ e)))

  -- a line is that of a listed place
  pub listed-line : (q : ℕ) (v : List ℕ) → line_of (placed_lines S t blocks) q ≡ Some v → (is_listed t n blocks q ≡ true) × (v ≡ line_at t (q % 16) (q / 16))
  listed-line q v h = go (is_listed t n blocks q) refl
    where
      go : (b : Bool) → is_listed t n blocks q ≡ b → (b ≡ true) × (v ≡ line_at t (q % 16) (q / 16))
      go true e = (refl, same_Some v (line_at t (q % 16) (q / 16)) (sym h ∙ line-listed q e))
      go false e = absurd (none-some v (sym (line-unlisted q e) ∙ h))

  -- past the end or not, where something was read: the rules' words, and the test
  read_fits : (p j : ℕ) → leb (read_to (placed_lines S t blocks) p j) (length (listing_of S t blocks)) ≡ (is_listed t n blocks p && in_line j (length (line_at t (p % 16) (p / 16))))
  read_fits p j = rw (← text_lines S (chain_of n t blocks)) (go (is_listed t n blocks p) refl)
    where
      go : (b : Bool) → is_listed t n blocks p ≡ b → leb (read_to (placed_lines S t blocks) p j) (length (text (placed_lines S t blocks))) ≡ (b && in_line j (length (line_at t (p % 16) (p / 16))))
      go true e = here-fits (placed_lines S t blocks) p j (line_at t (p % 16) (p / 16)) (line-listed p e)
      go false e = nowhere_fits (placed_lines S t blocks) p j (line-unlisted p e)

  not_zero : is_listed t n blocks 0 ≡ false
  unfolding is_listed
  not_zero = refl

  pub cursor-fits : (p j : ℕ) → leb (bytes_read (placed_lines S t blocks) p j) (length (listing_of S t blocks)) ≡ cursor_fits t n blocks p j
  unfolding bytes_read cursor_fits
  cursor-fits p j = go (ℕ_discrete p 0) (ℕ_discrete j 0)
    where
      go : Dec (p ≡ 0) → Dec (j ≡ 0)
          → leb (cond (eqb p 0 && eqb j 0) 0 (read_to (placed_lines S t blocks) p j)) (length (listing_of S t blocks))
          ≡ cond (eqb p 0) (eqb j 0) (is_listed t n blocks p && in_line j (length (line_at t (p % 16) (p / 16))))
      go (yes a) (yes b) = rw (eq-eqb p 0 a, eq-eqb j 0 b) (le-leb 0 (length (listing_of S t blocks)) (omega arith))
      go (yes a) (no b) = rw (eq-eqb p 0 a, ne_eqb j 0 b) (read_fits p j ∙ rw (a, not_zero) refl)
      go (no a) d = rw (ne_eqb p 0 a) (read_fits p j)

  -- a port, by its words alone
  pub port_local : (g : ℕ) → port_fits S t blocks g ≡ (cursor_fits t n blocks (port_word t g 0) (port_word t g 1) && all_to (λ i. leb (port_word t g (2 + i)) (get_or limits i 0)) 6)
  unfolding port_fits port_in registers_fit all_to
  port_local g = ap (λ (b : Bool). b && registers_fit (port_in S t blocks g)) (cursor-fits (port_word t g 0) (port_word t g 1))
