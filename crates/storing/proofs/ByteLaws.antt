-- Laws of words as bytes: how many there are, one word more, put one after the other.
use Rattle.std.proofs.Common.{◌≡◌, refl, ap, ap₂, sym, ◌∙◌, List, [], ◌∷◌, ◌++◌, ℕ, ◌+◌, ◌*◌, ◌<◌, ◌≤◌, arith, add-one, length, length-append, get_or, set, take, length-take-le}
use Rattle.std.proofs.Math.Seq.{paste, take-suc, take-suc-set}
use Rattle.std.proofs.lemmas.Grind.{flat_map-append}
use Rattle.std.specs.Int.{w32, to_le_bytes}
use Rattle.base.proofs.Ranges.{tab_none, tab_next}
use Rattle.words.proofs.PasteLaws.{paste-append}
use Rattle.storing.specs.Bytes.{bytes_of, word_in, words_in}

pub length-bytes_of : (w : List ℕ) → length (bytes_of w) ≡ 4 * length w
unfolding bytes_of
length-bytes_of [] = refl
length-bytes_of (x ∷ w) = length-append (to_le_bytes w32 x) (bytes_of w) ∙ ap (λ (k : ℕ). 4 + k) (length-bytes_of w) ∙ omega arith

-- those of words one after the other
pub bytes_of-append : (w v : List ℕ) → bytes_of (w ++ v) ≡ bytes_of w ++ bytes_of v
unfolding bytes_of
bytes_of-append w v = flat_map-append (to_le_bytes w32) w v

pub bytes_of-none : bytes_of [] ≡ []
unfolding bytes_of
bytes_of-none = refl

pub bytes_of-one : (x : ℕ) → bytes_of (x ∷ []) ≡ to_le_bytes w32 x
unfolding bytes_of
bytes_of-one x = refl

pub bytes_of-more : (w : List ℕ) (i : ℕ) → i < length w → bytes_of (take (i + 1) w) ≡ bytes_of (take i w) ++ to_le_bytes w32 (get_or w i 0)
bytes_of-more w i h =
    rw (add-one i, take-suc w i 0 h)
    (bytes_of-append (take i w) (get_or w i 0 ∷ []) ∙ ap (λ (z : List ℕ). bytes_of (take i w) ++ z) (bytes_of-one (get_or w i 0)))

-- one word more behind those that are put
pub put_more : (t w : List ℕ) (at i : ℕ) → i < length w → 4 * (at + length w) ≤ length t
    → paste (paste t (4 * at) (bytes_of (take i w)) (4 * i)) (4 * (at + i)) (to_le_bytes w32 (get_or w i 0)) 4 ≡ paste t (4 * at) (bytes_of (take (i + 1) w)) (4 * (i + 1))
put_more t w at i h l =
    let x = bytes_of (take i w) in
    let y = to_le_bytes w32 (get_or w i 0) in
    let e : length x ≡ 4 * i = length-bytes_of (take i w) ∙ ap (λ (k : ℕ). 4 * k) (length-take-le i w (omega arith)) in
    let a : 4 * (at + i) ≡ 4 * at + 4 * i = omega arith in
    let n : 4 * i + 4 ≡ 4 * (i + 1) = omega arith in
    ap (λ (k : ℕ). paste (paste t (4 * at) x (4 * i)) k y 4) a
    ∙ paste-append t (4 * at) x y (4 * i) 4 e (omega arith)
    ∙ ap₂ (λ (z : List ℕ) (k : ℕ). paste t (4 * at) z k) (sym (bytes_of-more w i h)) n

-- ---- words read

pub words_none : (b : List ℕ) (k : ℕ) → words_in b k 0 ≡ []
unfolding words_in
words_none b k = tab_none (λ i. word_in b (k + i))

pub words_more : (b : List ℕ) (k i : ℕ) → words_in b k (i + 1) ≡ words_in b k i ++ word_in b (k + i) ∷ []
unfolding words_in
words_more b k i = rw (add-one i) (tab_next (λ i. word_in b (k + i)) i)

-- one word more behind those that are read
pub read_more : (b out : List ℕ) (k i : ℕ) → i < length out → take i out ≡ words_in b k i → take (i + 1) (set out i (word_in b (k + i))) ≡ words_in b k (i + 1)
read_more b out k i h e =
    ap (λ (n : ℕ). take n (set out i (word_in b (k + i)))) (add-one i)
    ∙ take-suc-set out i (word_in b (k + i)) h
    ∙ ap (λ (z : List ℕ). z ++ word_in b (k + i) ∷ []) e
    ∙ sym (words_more b k i)
