-- The line of each place of a table: that of a held certificate in a block, and none else.
use Rattle.std.proofs.Common.{◌≡◌, refl, sym, ap, ◌∙◌, Bool, true, false, cond, List, [], ◌∷◌, ◌++◌, ◌≢◌, ℕ, zero, suc, ◌+◌, ◌-◌, ◌*◌, ◌/◌, ◌<◌, ◌≤◌, arith, length, eqb, eqb-true, Some, None}
use Rattle.std.proofs.lemmas.Option.{none-some}
use Rattle.base.proofs.Words.{ℕ_discrete}
use Rattle.terms.specs.declared.sheet.Settings.{Settings}
use Rattle.store.specs.Table.{held_at, mark_at, content_at, certificate_at, block_round}
use Rattle.store.proofs.TableLaws.{content-author, content-round}
use Rattle.committee.specs.Chain.{holds_at, block_at, chain_of}
use Rattle.committee.specs.Committees.{ordered, start_of}
use Rattle.committee.proofs.OrderLaws.{ordered-rows}
use Rattle.committee.proofs.ChainLaws.{holds-present, block-round, chain-none, chain_more, chain_length}
use Rattle.ports.specs.Cursors.{Lines, line_of, lines_after}
use Rattle.ports.specs.Places.{content_places, lines_of, line_at}
use Rattle.ports.proofs.Keys.{key_lines, Apart, keys_nowhere, keys-at, line-left, line-right}
use Rattle.ports.specs.Next.{key_member, key_place, key_of}
use Rattle.ports.proofs.PlaceLaws.{line_in, key_line, rows-keys}

-- ---- keys and places

key-member : (a m r : ℕ) → m < 16 → key_member a (key_of a m r) ≡ m
key-member a m r h = omega arith

key-round : (a m r : ℕ) → key_of a m r / 16 ≡ r
key-round a m r = omega arith

pub key-place : (a m r : ℕ) → m < 16 → key_place a (key_of a m r) ≡ r * 16 + m
key-place a m r h = rw (key-member a m r h, key-round a m r) refl

-- a place is of one key
pub key_apart : (a i j : ℕ) → key_place a i ≡ key_place a j → i ≡ j
key_apart a i j e = omega arith

place-round : (a q m r : ℕ) → m < 16 → key_place a q ≡ r * 16 + m → (q / 16 ≡ r) × (key_member a q ≡ m)
place-round a q m r h e = (omega arith, omega arith)

-- ---- one block

module _ (t : List ℕ) (n k a : ℕ) where
  -- its lines
  abbrev pub block_places : Lines
  block_places = key_lines (key_line t k a) (key_place a) 16 (n * 16)

  pub line-present : (m r : ℕ) → held_at t m r ≡ true → mark_at t m r ≡ k → line_in k (block_round t k) (holds_at t k m r) ≡ Some (line_at t m r)
  unfolding line_at
  line-present m r h q = rw (holds-present t k m r h q, content-author t m r, content-round t m r, q) refl

  pub block_listed : (m r : ℕ) → m < 16 → 1 ≤ r → r ≤ n → held_at t m r ≡ true → mark_at t m r ≡ k
      → (line_of block_places (r * 16 + m) ≡ Some (line_at t m r)) × (lines_after block_places (r * 16 + m) ≡ key_lines (key_line t k a) (key_place a) (suc (key_of a m r)) (16 + n * 16 - suc (key_of a m r)))
  block_listed m r l from to h q =
      let d = key_of a m r - 16 in
      let s : 16 + d ≡ key_of a m r = omega arith in
      let z : n * 16 - suc d ≡ 16 + n * 16 - suc (key_of a m r) = omega arith in
      let w : key_line t k a (16 + d) ≡ Some (line_at t m r) = rw (s, key-member a m r l, key-round a m r) (line-present m r h q) in
      let x = keys-at (key_line t k a) (key_place a) 16 (n * 16) d (line_at t m r) (omega arith) apart w in
      let p : key_place a (16 + d) ≡ r * 16 + m = rw s (key-place a m r l) in
      (rw p at x.0, ap (lines_after block_places) (sym p) ∙ x.1 ∙ rw (s, z) refl)
    where
      apart : Apart (key_line t k a) (key_place a) 16 (n * 16)
      apart i j u v y e = let z = key_apart a i j e in absurd (omega arith)

  -- what a line tells
  held-present : (m r : ℕ) (w : List ℕ) → line_in k (block_round t k) (holds_at t k m r) ≡ Some w → (held_at t m r ≡ true) × (mark_at t m r ≡ k)
  unfolding holds_at certificate_at
  held-present m r w e = go (eqb (mark_at t m r) k) (held_at t m r) refl e
    where
      go : (b h : Bool) → eqb (mark_at t m r) k ≡ b → line_in k (block_round t k) (cond b (cond h (Some (content_at t m r)) None) None) ≡ Some w → (h ≡ true) × (mark_at t m r ≡ k)
      go true true q x = (refl, eqb-true (mark_at t m r) k q)
      go true false q x = absurd (none-some w x)
      go false h q x = absurd (none-some w x)

  pub block-unlisted : (m r : ℕ) → m < 16 → (1 ≤ r → r ≤ n → held_at t m r ≡ true → mark_at t m r ≡ k → ⊥) → line_of block_places (r * 16 + m) ≡ None
  block-unlisted m r l f = keys_nowhere (key_line t k a) (key_place a) 16 (n * 16) (r * 16 + m) each
    where
      each : (q : ℕ) → 16 ≤ q → q < 16 + n * 16 → (w : List ℕ) → key_line t k a q ≡ Some w → key_place a q ≢ r * 16 + m
      each q u v w e p =
          let x = place-round a q m r l p in
          let y = held-present m r w (rw (x.0, x.1) at e) in
          f (omega (arith, x.0)) (omega (arith, x.0)) y.0 y.1

-- ---- a chain

none-there : (p : ℕ) → line_of [] p ≡ None
unfolding line_of
none-there p = refl

module _ (S : Settings) (t : List ℕ) where
  abbrev chain : ℕ → Lines
  chain k = lines_of S (chain_of S.ceiling t k)

  -- where the rows of the block after the first k start
  abbrev pub start_after : ℕ → ℕ
  start_after k = start_of S (block_at S.ceiling t (suc k)) (chain_of S.ceiling t k)

  abbrev pub places_of : ℕ → Lines
  places_of k = block_places t S.ceiling (suc k) (start_after k)

  pub lines_none : chain 0 ≡ []
  unfolding lines_of
  lines_none = rw (chain-none S.ceiling t) refl

  -- a block's lines by keys
  block-keys : (k : ℕ) → let b = block_at S.ceiling t (suc k) in let c = chain_of S.ceiling t k in content_places (length c + 1) b.round (ordered S b c) ≡ places_of k
  block-keys k =
      let n = S.ceiling in
      let b = block_at n t (suc k) in
      let c = chain_of n t k in
      let z : length c + 1 ≡ suc k = omega (arith, chain_length n t k) in
      ap (λ (i : ℕ). content_places i b.round (ordered S b c)) z
      ∙ ap (λ (i : ℕ). content_places (suc k) i (ordered S b c)) (block-round n t (suc k))
      ∙ ap (content_places (suc k) (block_round t (suc k))) (ordered-rows S b c)
      ∙ rows-keys t n (suc k) (start_after k) n (omega arith)

  lines-on : (k : ℕ) → lines_of S (block_at S.ceiling t (suc k) ∷ chain_of S.ceiling t k) ≡ chain k ++ places_of k
  unfolding lines_of
  lines-on k = ap (λ (l : Lines). chain k ++ l) (block-keys k)

  pub lines_more : (k : ℕ) → chain (suc k) ≡ chain k ++ places_of k
  lines_more k = ap (lines_of S) (chain_more S.ceiling t k) ∙ lines-on k

  -- a place of the listing
  pub record Listed (k m r : ℕ) : Type 0 where
    pub member : m < 16
    pub from : 1 ≤ r
    pub to : r ≤ S.ceiling
    pub held : held_at t m r ≡ true
    pub mark_from : 1 ≤ mark_at t m r
    pub mark_to : mark_at t m r ≤ k

  pub unlisted : (k m r : ℕ) → m < 16 → (Listed k m r → ⊥) → line_of (chain k) (r * 16 + m) ≡ None
  unlisted zero m r l f = rw lines_none (none-there (r * 16 + m))
  unlisted (suc k) m r l f =
      ap (λ (x : Lines). line_of x (r * 16 + m)) (lines_more k)
      ∙ (line-right (chain k) (places_of k) (r * 16 + m) (unlisted k m r l (λ x. f (record { member = l; from = x.from; to = x.to; held = x.held; mark_from = x.mark_from; mark_to = omega (arith, x.mark_to) })))).0
      ∙ block-unlisted t S.ceiling (suc k) (start_after k) m r l (λ from to h e. f (record { member = l; from = from; to = to; held = h; mark_from = omega arith; mark_to = omega arith }))

  pub listed : (k m r : ℕ) → Listed k m r → line_of (chain k) (r * 16 + m) ≡ Some (line_at t m r)
  listed zero m r x = absurd (omega (arith, x.mark_from, x.mark_to))
  listed (suc k) m r x = ap (λ (l : Lines). line_of l (r * 16 + m)) (lines_more k) ∙ go (ℕ_discrete (mark_at t m r) (suc k)) (λ h. listed k m r (record { member = x.member; from = x.from; to = x.to; held = x.held; mark_from = x.mark_from; mark_to = h }))
    where
      go : Dec (mark_at t m r ≡ suc k) → (mark_at t m r ≤ k → line_of (chain k) (r * 16 + m) ≡ Some (line_at t m r)) → line_of (chain k ++ places_of k) (r * 16 + m) ≡ Some (line_at t m r)
      go (yes e) f = (line-right (chain k) (places_of k) (r * 16 + m) (unlisted k m r x.member (λ y. absurd (omega (arith, y.mark_to))))).0 ∙ (block_listed t S.ceiling (suc k) (start_after k) m r x.member x.from x.to x.held e).0
      go (no d) f = line-left (chain k) (places_of k) (r * 16 + m) (line_at t m r) (f (omega (arith, x.mark_to)))
