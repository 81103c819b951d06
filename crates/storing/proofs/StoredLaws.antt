-- Laws of what is stored: put piece by piece.
use Rattle.std.proofs.Common.{◌≡◌, true, refl, ap, ap₂, sym, ◌∙◌, List, ◌++◌, ℕ, ◌+◌, ◌*◌, ◌%◌, ◌<◌, ◌≤◌, arith, length, length-append, take, length-take-le}
use Rattle.std.proofs.Math.Seq.{paste, take-paste}
use Rattle.std.proofs.lemmas.List.{take_all}
use Rattle.sha2.specs.Sha256.{sha256, digest_bytes}
use Rattle.store.specs.Table.{used_length}
use Rattle.words.specs.Lengths.{state_length}
use Rattle.words.specs.States.{state_reads}
use Rattle.words.proofs.PasteLaws.{paste-append}
use Rattle.words.proofs.ReadingLaws.{state-read}
use Rattle.storing.specs.Bytes.{bytes_of}
use Rattle.storing.specs.Stored.{head_words, ceiling_of, covered_length, covered_words, stored}
use Rattle.storing.proofs.ByteLaws.{length-bytes_of, bytes_of-append}

pub length-sha256 : (m : List ℕ) → length (sha256 m) ≡ 32
unfolding sha256 digest_bytes
length-sha256 m = refl

-- the padding of the words before the digest fits into their last block
pub covered_end : (c : ℕ) → 4 * covered_length c % 64 < 56
covered_end c = omega arith

-- a state that is read is long enough
pub reads_long : (w : List ℕ) → state_reads w ≡ true → state_length ≤ length w
reads_long w e = (state-read w e).long

module _ (run : ℕ) (w t : List ℕ) (hw : state_length ≤ length w) (ht : used_length (ceiling_of w) ≤ length t) where
  pub length-covered : length (covered_words run w t) ≡ covered_length (ceiling_of w)
  unfolding covered_words
  length-covered =
      length-append (head_words run ++ take state_length w) (take (used_length (ceiling_of w)) t)
      ∙ ap₂ (λ (a b : ℕ). a + b) (length-append (head_words run) (take state_length w) ∙ ap (λ (k : ℕ). 4 + k) (length-take-le state_length w hw)) (length-take-le (used_length (ceiling_of w)) t ht)

  pub length-covered_bytes : length (bytes_of (covered_words run w t)) ≡ 4 * covered_length (ceiling_of w)
  length-covered_bytes = length-bytes_of (covered_words run w t) ∙ ap (λ (k : ℕ). 4 * k) length-covered

  -- head, state and table, one after the other
  pub covered_put : (b : List ℕ) → 4 * covered_length (ceiling_of w) ≤ length b
      → paste (paste (paste b 0 (bytes_of (head_words run)) 16) 16 (bytes_of (take state_length w)) 156) 172 (bytes_of (take (used_length (ceiling_of w)) t)) (4 * used_length (ceiling_of w))
      ≡ paste b 0 (bytes_of (covered_words run w t)) (4 * covered_length (ceiling_of w))
  unfolding covered_words
  covered_put b h =
      let x = bytes_of (head_words run) in
      let y = bytes_of (take state_length w) in
      let z = bytes_of (take (used_length (ceiling_of w)) t) in
      let lx : length x ≡ 16 = length-bytes_of (head_words run) in
      let ly : length y ≡ 156 = length-bytes_of (take state_length w) ∙ ap (λ (k : ℕ). 4 * k) (length-take-le state_length w hw) in
      let lxy : length (x ++ y) ≡ 172 = length-append x y ∙ ap₂ (λ (i j : ℕ). i + j) lx ly in
      let joined : x ++ y ++ z ≡ bytes_of (head_words run ++ take state_length w ++ take (used_length (ceiling_of w)) t) =
      ap (λ (v : List ℕ). v ++ z) (sym (bytes_of-append (head_words run) (take state_length w))) ∙ sym (bytes_of-append (head_words run ++ take state_length w) (take (used_length (ceiling_of w)) t)) in
      let n : 172 + 4 * used_length (ceiling_of w) ≡ 4 * covered_length (ceiling_of w) = omega arith in
      ap (λ (v : List ℕ). paste v 172 z (4 * used_length (ceiling_of w))) (paste-append b 0 x y 16 156 lx (omega arith))
      ∙ paste-append b 0 (x ++ y) z 172 (4 * used_length (ceiling_of w)) lxy (omega arith)
      ∙ ap₂ (λ (v : List ℕ) (k : ℕ). paste b 0 v k) joined n

  -- and the digest behind them
  pub stored_put : (b : List ℕ) (n : ℕ) → 4 * covered_length (ceiling_of w) ≡ n → n + 32 ≤ length b
      → paste (paste b 0 (bytes_of (covered_words run w t)) n) n (sha256 (take n (paste b 0 (bytes_of (covered_words run w t)) n))) 32
      ≡ paste b 0 (stored run w t) (n + 32)
  unfolding stored
  stored_put b n e h =
      let c = bytes_of (covered_words run w t) in
      let l : length c ≡ n = length-covered_bytes ∙ e in
      let z : n ≡ 0 + n = omega arith in
      let k : take n (paste b 0 c n) ≡ c = ap (λ (i : ℕ). take i (paste b 0 c n)) z ∙ take-paste b 0 c n (omega arith) (omega arith) ∙ take_all n c (omega arith) in
      ap (λ (v : List ℕ). paste (paste b 0 c n) n (sha256 v) 32) k
      ∙ ap (λ (i : ℕ). paste (paste b 0 c n) i (sha256 c) 32) z
      ∙ paste-append b 0 c (sha256 c) n 32 l (omega arith)
