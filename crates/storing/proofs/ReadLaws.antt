-- Words put as bytes read back, and bytes read as words are put back.
use Rattle.std.proofs.Common.{◌≡◌, refl, ap, ap₂, sym, ◌∙◌, List, [], ◌∷◌, ◌++◌, append_assoc, append-nil, ℕ, zero, suc, add-zero, zero-add, ◌+◌, ◌*◌, ◌<◌, ◌≤◌, arith, length, get_or, take, drop, length-take-le, slice_index}
use Rattle.base.proofs.Words.{get_or-append}
use Rattle.std.proofs.Math.Seq.{take-add}
use Rattle.std.proofs.lemmas.List.{get_or-drop}
use Rattle.std.proofs.lemmas.List.Concat.{get_or-flat_map}
use Rattle.std.proofs.lemmas.Nat.{from_le_bytes-to_le_bytes_4, le_bytes_4}
use Rattle.std.specs.Int.{w32, to_le_bytes}
use Rattle.base.specs.Parts.{part}
use Rattle.base.proofs.FoldLaws.{length-tab, get_d_tab, tab-same, tab_get}
use Rattle.base.proofs.PasteLaws.{length_part, get_d_part}
use Rattle.storing.specs.Bytes.{bytes_of, word_in, words_in, IsWords, IsBytes}
use Rattle.storing.proofs.ByteLaws.{length-bytes_of, bytes_of-append, bytes_of-none, bytes_of-one, words_none, words_more}

-- ---- put, then read

module _ (w d : List ℕ) (k : ℕ) (h : k < length w) where
  -- byte j of word k
  byte_back : (j : ℕ) → j < 4 → slice_index (bytes_of w ++ d) (4 * k + j) ≡ get_or (to_le_bytes w32 (get_or w k 0)) j 0
  unfolding bytes_of
  byte_back j l =
      let e : length (bytes_of (take k w)) ≡ 4 * k = length-bytes_of (take k w) ∙ ap (λ (n : ℕ). 4 * n) (length-take-le k w (omega arith)) in
      get_or-append (bytes_of w) d 0 (4 * k + j) (omega (arith, length-bytes_of w))
      ∙ ap (λ (n : ℕ). get_or (bytes_of w) (n + j) 0) (sym e)
      ∙ get_or-flat_map (to_le_bytes w32) w k j 0 0 h l

  pub word_back : get_or w k 0 < 4294967296 → word_in (bytes_of w ++ d) k ≡ get_or w k 0
  unfolding word_in
  word_back l =
      let z : 4 * k ≡ 4 * k + 0 = omega arith in
      rw (ap (slice_index (bytes_of w ++ d)) z ∙ byte_back 0 (omega arith), byte_back 1 (omega arith), byte_back 2 (omega arith), byte_back 3 (omega arith)) (from_le_bytes-to_le_bytes_4 (get_or w k 0) l)

-- the words that were put
pub words_back : (w d : List ℕ) (k n : ℕ) → IsWords w → k + n ≤ length w → words_in (bytes_of w ++ d) k n ≡ part w k n
unfolding words_in
words_back w d k n f h =
    tab-same (λ i. word_in (bytes_of w ++ d) (k + i)) (λ i. get_or (part w k n) i 0) n (λ i l. word_back w d (k + i) (omega arith) (f (k + i)) ∙ sym (get_d_part w k n i l))
    ∙ sym (tab_get (part w k n) n 0 (length_part w k n h))

-- ---- read, then put

pub length-words_in : (b : List ℕ) (k n : ℕ) → length (words_in b k n) ≡ n
unfolding words_in
length-words_in b k n = length-tab (λ i. word_in b (k + i)) n

pub get_or-words_in : (b : List ℕ) (k n i : ℕ) → i < n → get_or (words_in b k n) i 0 ≡ word_in b (k + i)
unfolding words_in
get_or-words_in b k n i h = get_d_tab (λ i. word_in b (k + i)) n i 0 h

pub word-below : (b : List ℕ) (k : ℕ) → IsBytes b → word_in b k < 4294967296
unfolding word_in
word-below b k f = omega (arith, f (4 * k), f (4 * k + 1), f (4 * k + 2), f (4 * k + 3))

-- words in a row, in two stretches
pub words_join : (b : List ℕ) (k n m : ℕ) → words_in b k (n + m) ≡ words_in b k n ++ words_in b (k + n) m
words_join b k n zero = rw (add-zero n, words_none b (k + n)) (sym (append-nil (words_in b k n)))
words_join b k n (suc m) =
    let e : n + suc m ≡ n + m + 1 = omega arith in
    let s : suc m ≡ m + 1 = omega arith in
    let p : k + (n + m) ≡ k + n + m = omega arith in
    ap (words_in b k) e
    ∙ words_more b k (n + m)
    ∙ ap₂ (λ (x : List ℕ) (i : ℕ). x ++ word_in b i ∷ []) (words_join b k n m) p
    ∙ append_assoc (words_in b k n) (words_in b (k + n) m) (word_in b (k + n + m) ∷ [])
    ∙ ap (λ (x : List ℕ). words_in b k n ++ x) (sym (words_more b (k + n) m) ∙ ap (words_in b (k + n)) (sym s))

-- each number is below m
abbrev pub Below : ℕ → List ℕ → Type 0
Below m b = (k : ℕ) → slice_index b k < m

pub taken_below : (m : ℕ) (b : List ℕ) (n : ℕ) → 0 < m → Below m b → Below m (take n b)
taken_below m b zero h f i = h
taken_below m [] (suc n) h f i = h
taken_below m (x ∷ b) (suc n) h f zero = f 0
taken_below m (x ∷ b) (suc n) h f (suc i) = taken_below m b n h (λ j. f (suc j)) i

pub joined_below : (m : ℕ) (b c : List ℕ) → Below m b → Below m c → Below m (b ++ c)
joined_below m [] c f g i = g i
joined_below m (x ∷ b) c f g zero = f 0
joined_below m (x ∷ b) c f g (suc i) = joined_below m b c (λ j. f (suc j)) g i

pub dropped_below : (m : ℕ) (b : List ℕ) (n : ℕ) → Below m b → Below m (drop n b)
dropped_below m b n f i = rw (get_or-drop n b i 0) (f (n + i))

-- the four bytes of a word
four_back : (b : List ℕ) (k : ℕ) → IsBytes b → 4 * k + 4 ≤ length b → to_le_bytes w32 (word_in b k) ≡ part b (4 * k) 4
unfolding word_in
four_back b k f h =
    let p = part b (4 * k) 4 in
    let z : 4 * k + 0 ≡ 4 * k = omega arith in
    le_bytes_4 p (word_in b k) (length_part b (4 * k) 4 h) (taken_below 256 (drop (4 * k) b) 4 (omega arith) (dropped_below 256 b (4 * k) f))
    (rw (get_d_part b (4 * k) 4 0 (omega arith), get_d_part b (4 * k) 4 1 (omega arith), get_d_part b (4 * k) 4 2 (omega arith), get_d_part b (4 * k) 4 3 (omega arith), z) refl)

-- the bytes that were read
pub bytes_back : (b : List ℕ) (n : ℕ) → IsBytes b → 4 * n ≤ length b → bytes_of (words_in b 0 n) ≡ take (4 * n) b
bytes_back b zero f h = rw (words_none b 0) bytes_of-none
bytes_back b (suc n) f h =
    let s : suc n ≡ n + 1 = omega arith in
    let m : 4 * n + 4 ≡ 4 * suc n = omega arith in
    ap (λ (i : ℕ). bytes_of (words_in b 0 i)) s
    ∙ ap bytes_of (words_more b 0 n ∙ ap (λ (i : ℕ). words_in b 0 n ++ word_in b i ∷ []) (zero-add n))
    ∙ bytes_of-append (words_in b 0 n) (word_in b n ∷ [])
    ∙ ap₂ (λ (x y : List ℕ). x ++ y) (bytes_back b n f (omega arith)) (bytes_of-one (word_in b n) ∙ four_back b n f (omega arith))
    ∙ sym (take-add (4 * n) 4 b)
    ∙ ap (λ (i : ℕ). take i b) m
