-- The words of a block's certificates are the entries of its rows.
use Rattle.std.proofs.Common.{◌≡◌, refl, ap, ap₂, ◌∙◌, List, [], ◌∷◌, ◌++◌, ℕ, zero, suc, ◌+◌, ◌*◌, ◌%◌, arith, length, Option, Some, None}
use Rattle.agreement.specs.Rules.{Block}
use Rattle.agreement.specs.Dag.{is_held}
use Rattle.terms.specs.Proposals.{Content}
use Rattle.committee.specs.Changes.{at_most_one, row, rows}
use Rattle.prospects.specs.Entries.{entry_if, row_entries, rows_entries}
use Rattle.preview.specs.Entries.{Entry, entries_of, words_of}

-- entry by entry
entries-append : (k : ℕ) (l m : List Content) → entries_of k (l ++ m) ≡ entries_of k l ++ entries_of k m
unfolding entries_of
entries-append k [] m = refl
entries-append k (p ∷ l) m = rw (entries-append k l m) refl

pub words_append : (l m : List Entry) → words_of (l ++ m) ≡ words_of l ++ words_of m
unfolding words_of
words_append [] m = refl
words_append (x ∷ l) m = rw (words_append l m) refl

pub words-empty : words_of [] ≡ []
unfolding words_of
words-empty = refl

-- three words each
pub words-length : (l : List Entry) → length (words_of l) ≡ 3 * length l
unfolding words_of
words-length [] = refl
words-length (x ∷ l) = let h = words-length l in omega arith

module _ (k : ℕ) where
  abbrev words : List Content → List ℕ
  words l = words_of (entries_of k l)

  more : (l m : List Content) → words (l ++ m) ≡ words l ++ words m
  more l m = ap words_of (entries-append k l m) ∙ words_append (entries_of k l) (entries_of k m)

  -- where certificates are at their own places
  module _ (b : Block Content) (placed : (i q : ℕ) (p : Content) → b.holds i q ≡ Some p → (p.author ≡ i) × (p.round ≡ q)) (a : ℕ) where
    place-words : (i q : ℕ) → words (at_most_one (b.holds i q)) ≡ entry_if (is_held (b.holds i q)) k q i
    unfolding entries_of words_of entry_if
    place-words i q = go (b.holds i q) refl
      where
        go : (o : Option Content) → b.holds i q ≡ o → words (at_most_one o) ≡ entry_if (is_held o) k q i
        go None e = refl
        go (Some p) e = let z = placed i q p e in rw (z.0, z.1) refl

    row_words : (q n : ℕ) → words (row b a q n) ≡ row_entries (λ i. is_held (b.holds i q)) k q a n
    unfolding row row_entries entries_of words_of
    row_words q zero = refl
    row_words q (suc n) = more (row b a q n) (at_most_one (b.holds ((a + n) % 16) q)) ∙ ap₂ ◌++◌ (row_words q n) (place-words ((a + n) % 16) q)

    pub rows_words : (n : ℕ) → words_of (entries_of k (rows b a n)) ≡ rows_entries (λ i q. is_held (b.holds i q)) k a 0 n
    unfolding rows rows_entries entries_of words_of
    rows_words zero = refl
    rows_words (suc n) = let e : 0 + suc n ≡ suc n = omega arith in more (rows b a n) (row b a (suc n) 16) ∙ rw e (ap₂ ◌++◌ (rows_words n) (row_words (suc n) 16))
