-- The lines of a chain with their places are those of its listing; and in a table, the line of each place.
use Rattle.std.proofs.Common.{◌≡◌, refl, sym, ap, ◌∙◌, Bool, true, false, cond, List, [], ◌∷◌, ◌++◌, append_assoc, ℕ, zero, suc, ◌+◌, ◌*◌, ◌/◌, ◌%◌, ◌≤◌, arith, length, eqb, Option, Some, None}
use Rattle.std.proofs.lemmas.Option.{same_Some, none-some}
use Rattle.agreement.specs.Rules.{Block, Chain}
use Rattle.terms.specs.Proposals.{Content}
use Rattle.terms.specs.declared.sheet.Settings.{Settings}
use Rattle.store.specs.Table.{held_at, mark_at, content_at, certificate_at, block_round}
use Rattle.store.proofs.TableLaws.{content-author, content-round}
use Rattle.committee.specs.Changes.{at_most_one, row, rows}
use Rattle.committee.specs.Chain.{holds_at, block_at}
use Rattle.committee.specs.Committees.{ordered}
use Rattle.committee.proofs.OrderLaws.{row-none, row_more, rows_none, rows_more}
use Rattle.committee.proofs.ChainLaws.{block_inside}
use Rattle.listing.specs.Lines.{listing_line}
use Rattle.listing.specs.Listing.{content_lines, chain_lines}
use Rattle.ports.specs.Cursors.{Lines, text}
use Rattle.ports.specs.Places.{content_places, lines_of}
use Rattle.ports.specs.Next.{key_member, key_place}
use Rattle.ports.proofs.Keys.{one, key_lines, keys-both}

-- ---- the bytes are those of the listing

text-append : (l m : Lines) → text (l ++ m) ≡ text l ++ text m
unfolding text
text-append [] m = refl
text-append (e ∷ l) m = rw (text-append l m) (sym (append_assoc e.1 (text l) (text m)))

text_contents : (k b : ℕ) (l : List Content) → text (content_places k b l) ≡ content_lines k b l
unfolding text content_places content_lines
text_contents k b [] = refl
text_contents k b (p ∷ l) = rw (text_contents k b l) refl

pub text_lines : (S : Settings) (c : Chain Content) → text (lines_of S c) ≡ chain_lines S c
unfolding text lines_of chain_lines
text_lines S [] = refl
text_lines S (b ∷ c) = text-append (lines_of S c) (content_places (length c + 1) b.round (ordered S b c)) ∙ rw (text_lines S c, text_contents (length c + 1) b.round (ordered S b c)) refl

-- ---- a block by keys: key q is round q / 16, and the member that is q % 16 after a

contents_append : (k b : ℕ) (l m : List Content) → content_places k b (l ++ m) ≡ content_places k b l ++ content_places k b m
unfolding content_places
contents_append k b [] m = refl
contents_append k b (p ∷ l) m = rw (contents_append k b l m) refl

-- the line of a place that block k holds
abbrev pub line_in : ℕ → ℕ → Option Content → Option (List ℕ)
line_in k b None = None
line_in k b (Some p) = Some (listing_line k b p.round p.author p.transactions)

abbrev pub key_line : List ℕ → ℕ → ℕ → ℕ → Option (List ℕ)
key_line t k a q = line_in k (block_round t k) (holds_at t k (key_member a q) (q / 16))

module _ (t : List ℕ) (n k a : ℕ) where
  abbrev block : Block Content
  block = block_at n t k

  abbrev round : ℕ
  round = block_round t k

  abbrev keyed : ℕ → ℕ → Lines
  keyed = key_lines (key_line t k a) (key_place a)

  none-keyed : (q : ℕ) → content_places k round [] ≡ keyed q 0
  unfolding content_places key_lines
  none-keyed q = refl

  holds-place : (m r : ℕ) (p : Content) → holds_at t k m r ≡ Some p → (p.author ≡ m) × (p.round ≡ r)
  unfolding holds_at certificate_at
  holds-place m r p e = go (eqb (mark_at t m r) k) (held_at t m r) e
    where
      go : (b h : Bool) → cond b (cond h (Some (content_at t m r)) None) None ≡ Some p → (p.author ≡ m) × (p.round ≡ r)
      go true true q = let i = same_Some (content_at t m r) p q in (sym (ap (λ (x : Content). x.author) i) ∙ content-author t m r, sym (ap (λ (x : Content). x.round) i) ∙ content-round t m r)
      go true false q = absurd (none-some p q)
      go false h q = absurd (none-some p q)

  key_one : (q : ℕ) → content_places k round (at_most_one (holds_at t k (key_member a q) (q / 16))) ≡ keyed q 1
  unfolding content_places key_lines
  key_one q = go (holds_at t k (key_member a q) (q / 16)) refl
    where
      go : (o : Option Content) → holds_at t k (key_member a q) (q / 16) ≡ o → content_places k round (at_most_one o) ≡ one (key_line t k a) (key_place a) q (line_in k round o) ++ []
      go None e = refl
      go (Some p) e = let x = holds-place (key_member a q) (q / 16) p e in ap (λ (z : ℕ). (z, listing_line k round p.round p.author p.transactions) ∷ []) (rw (x.0, x.1) refl)

  row-keys : (r m : ℕ) → 1 ≤ r → r ≤ n → m ≤ 16 → content_places k round (row block a r m) ≡ keyed (r * 16) m
  row-keys r zero l u h = rw (row-none block a r) (none-keyed (r * 16))
  row-keys r (suc m) l u h =
      let i : (r * 16 + m) % 16 ≡ m = omega arith in
      let j : (r * 16 + m) / 16 ≡ r = omega arith in
      let z : m + 1 ≡ suc m = omega arith in
      let x : content_places k round (at_most_one (holds_at t k ((a + m) % 16) r)) ≡ keyed (r * 16 + m) 1 = rw (i, j) at (key_one (r * 16 + m)) in
      rw (row_more block a r m, block_inside n t k ((a + m) % 16) r l u, contents_append k round (row block a r m) (at_most_one (holds_at t k ((a + m) % 16) r)), row-keys r m l u (omega arith), x)
      (sym (keys-both (key_line t k a) (key_place a) (r * 16) m 1) ∙ ap (keyed (r * 16)) z)

  -- the rows 1 to m
  pub rows-keys : (m : ℕ) → m ≤ n → content_places k round (rows block a m) ≡ keyed 16 (m * 16)
  rows-keys zero u = rw (rows_none block a) (none-keyed 16)
  rows-keys (suc m) u =
      let i : suc m * 16 ≡ 16 + m * 16 = omega arith in
      let j : m * 16 + 16 ≡ 16 + m * 16 = omega arith in
      rw (rows_more block a m, contents_append k round (rows block a m) (row block a (suc m) 16), rows-keys m (omega arith), row-keys (suc m) 16 (omega arith) u (omega arith), i)
      (sym (keys-both (key_line t k a) (key_place a) 16 (m * 16) 16) ∙ ap (keyed 16) j)
