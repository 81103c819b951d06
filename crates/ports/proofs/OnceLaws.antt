-- No place of a listing has two lines; and the lines after a place's: those of the later keys of its block, and of the later blocks.
use Rattle.std.proofs.Common.{◌≡◌, refl, sym, ap, ◌∙◌, Bool, true, false, List, [], ◌++◌, append_assoc, append-nil, ℕ, zero, suc, ◌+◌, ◌-◌, ◌*◌, ◌/◌, ◌%◌, ◌<◌, ◌≤◌, arith, Option, Some, None}
use Rattle.base.proofs.Words.{false≢true, ℕ_discrete, dec_lt}
use Rattle.std.proofs.lemmas.Option.{none-some}
use Rattle.terms.specs.declared.sheet.Settings.{Settings}
use Rattle.store.specs.Table.{held_at, mark_at}
use Rattle.committee.specs.Chain.{chain_of}
use Rattle.ports.specs.Cursors.{Lines, line_of, lines_after, Once}
use Rattle.ports.specs.Places.{lines_of, line_at}
use Rattle.ports.proofs.Keys.{key_lines, keys_nowhere, line-right}
use Rattle.ports.specs.Next.{key_place, key_of}
use Rattle.ports.proofs.PlaceLaws.{key_line}
use Rattle.ports.proofs.LineLaws.{key_apart, key-place, block_places, block_listed, block-unlisted, places_of, start_after, lines_more, unlisted}
use Rattle.ports.proofs.NextLaws.{Single, once, after-left}

-- a certificate of block k at a place, in a table of ceiling n
pub record InBlock (t : List ℕ) (n k m r : ℕ) : Type 0 where
  pub from : 1 ≤ r
  pub to : r ≤ n
  pub held : held_at t m r ≡ true
  pub mark : mark_at t m r ≡ k

in_block : (t : List ℕ) (n k m r : ℕ) → Dec (InBlock t n k m r)
in_block t n k m r = go (dec_lt 0 r) (dec_lt n r) (held_at t m r) refl (ℕ_discrete (mark_at t m r) k)
  where
    go : Dec (0 < r) → Dec (n < r) → (b : Bool) → held_at t m r ≡ b → Dec (mark_at t m r ≡ k) → Dec (InBlock t n k m r)
    go (yes a) (no b) true h (yes e) = yes (record { from = omega arith; to = omega arith; held = h; mark = e })
    go (yes a) (no b) true h (no e) = no (λ x. e x.mark)
    go (yes a) (no b) false h d = no (λ x. false≢true (sym h ∙ x.held))
    go (yes a) (yes b) c h d = no (λ x. absurd (omega (arith, x.to)))
    go (no a) b c h d = no (λ x. absurd (omega (arith, x.from)))

-- place p is of round p / 16 and member p % 16
pub by_place : (p : ℕ) → p / 16 * 16 + p % 16 ≡ p
by_place p = omega arith

module _ (t : List ℕ) (n k a : ℕ) where
  -- ---- one block

  abbrev lines : Lines
  lines = block_places t n k a

  none_in_block : (p : ℕ) → (InBlock t n k (p % 16) (p / 16) → ⊥) → line_of lines p ≡ None
  none_in_block p f = rw (by_place p) at (block-unlisted t n k a (p % 16) (p / 16) (omega arith) (λ i j h e. f (record { from = i; to = j; held = h; mark = e })))

  -- the keys after a place's
  abbrev pub later_keys : ℕ → Lines
  later_keys p = let q = suc (key_of a (p % 16) (p / 16)) in key_lines (key_line t k a) (key_place a) q (16 + n * 16 - q)

  pub after_in_block : (p : ℕ) → InBlock t n k (p % 16) (p / 16) → (line_of lines p ≡ Some (line_at t (p % 16) (p / 16))) × (lines_after lines p ≡ later_keys p)
  after_in_block p x = rw (by_place p) at (block_listed t n k a (p % 16) (p / 16) (omega arith) x.from x.to x.held x.mark)

  single_block : Single lines
  single_block p w h = go (in_block t n k (p % 16) (p / 16))
    where
      later : line_of (later_keys p) p ≡ None
      later = keys_nowhere (key_line t k a) (key_place a) (suc (key_of a (p % 16) (p / 16))) (16 + n * 16 - suc (key_of a (p % 16) (p / 16))) p
          (λ q u v _ _ e. let z = key_apart a (key_of a (p % 16) (p / 16)) q (key-place a (p % 16) (p / 16) (omega arith) ∙ by_place p ∙ sym e) in absurd (omega arith))

      go : Dec (InBlock t n k (p % 16) (p / 16)) → line_of (lines_after lines p) p ≡ None
      go (yes x) = rw (after_in_block p x).1 later
      go (no f) = absurd (none-some w (sym (none_in_block p f) ∙ h))

-- ---- a chain

module _ (S : Settings) (t : List ℕ) where
  abbrev chain : ℕ → Lines
  chain k = lines_of S (chain_of S.ceiling t k)

  -- a place of the first k blocks is not of the next one
  not_next : (k p : ℕ) (w : List ℕ) → line_of (chain k) p ≡ Some w → line_of (places_of S t k) p ≡ None
  not_next k p w h = none_in_block t S.ceiling (suc k) (start_after S t k) p λ x.
      none-some w (sym (rw (by_place p) at (unlisted S t k (p % 16) (p / 16) (omega arith) (λ y. absurd (omega (arith, y.mark_to, x.mark))))) ∙ h)

  single_chain : (k : ℕ) → Single (chain k)
  single_chain zero p w h = absurd (none-some w (sym (unlisted-none p) ∙ h))
    where
      unlisted-none : (p : ℕ) → line_of (chain 0) p ≡ None
      unlisted-none p = rw (by_place p) at (unlisted S t 0 (p % 16) (p / 16) (omega arith) (λ y. absurd (omega (arith, y.mark_from, y.mark_to))))
  single_chain (suc k) p w h = ap (λ (l : Lines). line_of (lines_after l p) p) (lines_more S t k) ∙ go (line_of (chain k) p) refl (λ v i. single_chain k p v i)
    where
      h' : line_of (chain k ++ places_of S t k) p ≡ Some w
      h' = ap (λ (l : Lines). line_of l p) (sym (lines_more S t k)) ∙ h

      go : (o : Option (List ℕ)) → line_of (chain k) p ≡ o → ((v : List ℕ) → line_of (chain k) p ≡ Some v → line_of (lines_after (chain k) p) p ≡ None) → line_of (lines_after (chain k ++ places_of S t k) p) p ≡ None
      go (Some v) e f = ap (λ (l : Lines). line_of l p) (after-left (chain k) (places_of S t k) p v e) ∙ (line-right (lines_after (chain k) p) (places_of S t k) p (f v e)).0 ∙ not_next k p v e
      go None e f =
          let x = line-right (chain k) (places_of S t k) p e in
          ap (λ (l : Lines). line_of l p) x.1 ∙ single_block t S.ceiling (suc k) (start_after S t k) p w (sym x.0 ∙ h')

  pub once-chain : (k : ℕ) → Once (chain k)
  once-chain k = once (chain k) (single_chain k)

  -- the lines of the d blocks after the first k
  unfoldable pub later_blocks : ℕ → ℕ → Lines
  later_blocks k zero = []
  later_blocks k (suc d) = later_blocks k d ++ places_of S t (k + d)

  pub chain-later : (k d : ℕ) → chain (k + d) ≡ chain k ++ later_blocks k d
  unfolding later_blocks
  chain-later k zero = let z : k + 0 ≡ k = omega arith in rw z (sym (append-nil (chain k)))
  chain-later k (suc d) =
      let z : k + suc d ≡ suc (k + d) = omega arith in
      ap chain z ∙ lines_more S t (k + d) ∙ rw (chain-later k d) (append_assoc (chain k) (later_blocks k d) (places_of S t (k + d)))

  -- the lines after that of a place of block k + 1, where there are k + 1 + d blocks
  pub after-place : (k d p : ℕ) → InBlock t S.ceiling (suc k) (p % 16) (p / 16)
      → lines_after (chain (suc k + d)) p ≡ later_keys t S.ceiling (suc k) (start_after S t k) p ++ later_blocks (suc k) d
  after-place k d p x =
      let w = line_at t (p % 16) (p / 16) in
      let b = after_in_block t S.ceiling (suc k) (start_after S t k) p x in
      let n : line_of (chain k) p ≡ None = rw (by_place p) at (unlisted S t k (p % 16) (p / 16) (omega arith) (λ y. absurd (omega (arith, y.mark_to, x.mark)))) in
      let r = line-right (chain k) (places_of S t k) p n in
      let e : line_of (chain (suc k)) p ≡ Some w = ap (λ (l : Lines). line_of l p) (lines_more S t k) ∙ r.0 ∙ b.0 in
      ap (λ (l : Lines). lines_after l p) (chain-later (suc k) d)
      ∙ after-left (chain (suc k)) (later_blocks (suc k) d) p w e
      ∙ ap (λ (l : Lines). l ++ later_blocks (suc k) d) (ap (λ (l : Lines). lines_after l p) (lines_more S t k) ∙ r.1 ∙ b.1)
