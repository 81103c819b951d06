-- The claims of what blocks hold.
use Rattle.std.proofs.Common.{◌≡◌, refl, ap, sym, ◌∙◌, true, cond, List, [], ◌∷◌, ◌++◌, map, append_assoc, append-nil, ℕ, zero, suc, ◌+◌, ◌*◌, ◌/◌, ◌%◌, ◌≤◌, arith, add-one, eqb, length, le-ltb, eq-eqb, ne_eqb, Option, Some, None}
use Rattle.base.proofs.Words.{ℕ_discrete}
use Rattle.base.specs.Folds.{tab}
use Rattle.base.proofs.Ranges.{tab_none, tab_next}
use Rattle.base.proofs.FoldLaws.{tab-same}
use Rattle.base.proofs.SumLaws.{sum_mono}
use Rattle.base.proofs.CheckLaws.{passes, passes-all}
use Rattle.agreement.specs.Rules.{Block, Chain}
use Rattle.agreement.specs.Prefixes.{◌≼◌, same, grown, block_numbered}
use Rattle.agreement.specs.Listing.{listing}
use Rattle.terms.specs.Proposals.{Content}
use Rattle.terms.specs.declared.sheet.Settings.{Settings}
use Rattle.committee.specs.Committees.{ordered}
use Rattle.store.specs.Table.{mark_at}
use Rattle.committee.specs.Changes.{at_most_one}
use Rattle.committee.specs.Chain.{holds_at, chain_of}
use Rattle.committee.proofs.ChainLaws.{chain_length, holds-other}
use Rattle.chain_committees.specs.BlockChanges.{start_at}
use Rattle.listing.specs.Counts.{in_block, chain_count}
use Rattle.listing.proofs.CountLaws.{count_more, count_all}
use Rattle.state.specs.declared.State.{State}
use Rattle.state.specs.View.{view}
use Rattle.state.specs.WellFormed.{well_formed}
use Rattle.spans.specs.Contents.{contents_of, numbered_contents}
use Rattle.spans.specs.Spans.{stored, count_after, held_after}
use Rattle.spans.specs.Listed.{reading_blocks, blocks_refusal}
use Rattle.spans.specs.Rows.{place_held}
use Rattle.spans.proofs.RowLaws.{held_count, rows_length}
use Rattle.spans.proofs.SpanLaws.{count-none, count-next}

module _ (S : Settings) (b : Block Content) (c : Chain Content) where
  -- the newest block, and the older ones
  contents-newest : contents_of S (b ∷ c) (suc (length c)) ≡ ordered S b c
  unfolding contents_of
  contents-newest = rw (eq-eqb (suc (length c)) (suc (length c)) refl) refl

  contents-older : (k : ℕ) → k ≤ length c → contents_of S (b ∷ c) k ≡ contents_of S c k
  unfolding contents_of
  contents-older k h = rw (ne_eqb k (suc (length c)) (λ e. omega arith)) refl

  newest : block_numbered (b ∷ c) (suc (length c)) ≡ Some b
  unfolding block_numbered
  newest = rw (eq-eqb (suc (length c)) (suc (length c)) refl) refl

  older : (k : ℕ) → k ≤ length c → block_numbered (b ∷ c) k ≡ block_numbered c k
  unfolding block_numbered
  older k h = rw (ne_eqb k (suc (length c)) (λ e. omega arith)) refl

module _ (S : Settings) where
  pub listed_by_number : (c : Chain Content) → listing (ordered S) c ≡ tab (λ i. numbered_contents S c (i + 1)) (length c)
  unfolding listing
  listed_by_number [] = sym (tab_none (λ i. numbered_contents S [] (i + 1)))
  listed_by_number (b ∷ c) =
      let n = length c in
      rw (tab_next (λ i. numbered_contents S (b ∷ c) (i + 1)) n, add-one n, newest S b c, contents-newest S b c, listed_by_number c)
      (ap (λ (l : List (ℕ × List Content)). l ++ ((b.round, ordered S b c) ∷ []))
      (tab-same (λ i. numbered_contents S c (i + 1)) (λ i. numbered_contents S (b ∷ c) (i + 1)) n
      (λ i h. rw (older S b c (i + 1) (omega arith), contents-older S b c (i + 1) (omega arith)) refl)))

  -- what a chain has grown by is newer
  longer : {c d : Chain Content} → c ≼ d → length c ≤ length d
  longer same = omega arith
  longer (grown b l h) = let i = longer h in omega arith

  pub contents_stay : (c d : Chain Content) (k : ℕ) → c ≼ d → k ≤ length c → contents_of S d k ≡ contents_of S c k
  contents_stay c d k same h = refl
  contents_stay c d k (grown b {d = e} l p) h = let i = longer p in contents-older S b e k (omega arith) ∙ contents_stay c e k p h

pub in_pieces : (S : Settings) (c : Chain Content) (t : List ℕ) (m n k : ℕ) → held_after S c t m (n + k) ≡ held_after S c t m n ++ held_after S c t (m + n) k
unfolding held_after
in_pieces S c t m n zero = let e : n + 0 ≡ n = omega arith in rw e (sym (append-nil (held_after S c t m n)))
in_pieces S c t m n (suc k) =
    let e : n + suc k ≡ suc (n + k) = omega arith in
    let i : m + (n + k) ≡ m + n + k = omega arith in
    rw (e, in_pieces S c t m n k, i) (append_assoc (held_after S c t m n) (held_after S c t (m + n) k) (map (stored t (suc (m + n + k))) (contents_of S c (suc (m + n + k)))))

pub stays : (S : Settings) (c d : Chain Content) (t : List ℕ) (m n : ℕ) → c ≼ d → m + n ≤ length c → held_after S d t m n ≡ held_after S c t m n
unfolding held_after
stays S c d t m zero p h = refl
stays S c d t m (suc n) p h = rw (stays S c d t m n p (omega arith), contents_stay S c d (suc (m + n)) p (omega arith)) refl

-- ---- room: a place is marked with one block

module _ (t : List ℕ) (k p : ℕ) where
  place-most : held_count t k p ≤ in_block t k p
  unfolding in_block place_held
  place-most = go (ℕ_discrete (mark_at t (p % 16) (p / 16)) k)
    where
      one : (o : Option Content) → length (at_most_one o) ≤ 1
      one None = omega arith
      one (Some c) = omega arith

      go : Dec (mark_at t (p % 16) (p / 16) ≡ k) → length (at_most_one (holds_at t k (p % 16) (p / 16))) ≤ cond (eqb (mark_at t (p % 16) (p / 16)) k) 1 0
      go (yes e) = rw (eq-eqb (mark_at t (p % 16) (p / 16)) k e) (one (holds_at t k (p % 16) (p / 16)))
      go (no e) = rw (ne_eqb (mark_at t (p % 16) (p / 16)) k e, holds-other t k (p % 16) (p / 16) e) (omega arith)

module _ (S : Settings) (t : List ℕ) (blocks m : ℕ) where
  counted-most : (n : ℕ) → m + n ≤ blocks → chain_count S.ceiling t m + count_after S (chain_of S.ceiling t blocks) m n ≤ chain_count S.ceiling t (m + n)
  counted-most zero h = let e : m + 0 ≡ m = omega arith in rw e (omega (arith, count-none S t blocks m))
  counted-most (suc n) h =
      let c = S.ceiling in
      let e : m + suc n ≡ m + n + 1 = omega arith in
      let p = counted-most n (omega arith) in
      let q = rows_length t (m + n + 1) (start_at S t (m + n)) c in
      let u = sum_mono (held_count t (m + n + 1)) (in_block t (m + n + 1)) (c * 16 + 16) (λ i _. place-most t (m + n + 1) i) in
      rw (e, ← add-one n) (omega (arith, count_more c t (m + n), count-next S t blocks m n (omega arith)))

pub room_for_all : (s : State) (t : List ℕ) (m n words : ℕ) → well_formed s t ≡ true → m + n ≤ s.blocks → 16 * s.settings.ceiling + 16 ≤ words / 18 → blocks_refusal s t m n words ≡ 0
unfolding blocks_refusal
room_for_all s t m n words w h l =
    let c = s.settings.ceiling in
    let f = counted-most s.settings t s.blocks m n h in
    let g = count_all c t (m + n) in
    passes 1 (reading_blocks s t m n words) (rw w refl)
    ∙ passes 23 _ (rw (chain_length c t s.blocks) (le-ltb s.blocks (m + n) h))
    ∙ passes 25 _ (le-ltb (words / 18) (count_after s.settings (view s t).chain m n) (omega arith))
    ∙ passes-all
