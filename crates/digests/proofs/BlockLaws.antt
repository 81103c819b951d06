-- Laws of the last block of a message: how it is put together, and that the digest ends with it.
use Rattle.std.proofs.Common.{◌≡◌, refl, ap, ap₂, sym, ◌∙◌, List, ◌∷◌, ◌++◌, append_assoc, ℕ, ◌+◌, ◌-◌, ◌*◌, ◌/◌, ◌%◌, ◌^◌, ◌<◌, ◌≤◌, arith, length, length-append, length-drop, take, drop, take_all, drop-drop, replicate}
use Rattle.std.proofs.lemmas.List.{drop-append-le, length-replicate}
use Rattle.std.proofs.Math.Seq.{paste, take-append-add, take-paste, drop-paste}
use Rattle.std.specs.Int.{w64, to_be_bytes}
use Rattle.base.proofs.PasteLaws.{paste-whole}
use Rattle.sha2.specs.Sha256.{compress, digest_bytes, hash_after, initial_hash_256, padding, sha256}
use Rattle.sha2.proofs.Absorbing256.{hash_after-append, hash_after_next}

-- x of n elements from b on, and then y of m behind it, are the two at once
paste-append : (t : List ℕ) (b : ℕ) (x y : List ℕ) (n m : ℕ) → length x ≡ n → b + n ≤ length t → paste (paste t b x n) (b + n) y m ≡ paste t b (x ++ y) (n + m)
paste-append t b x y n m e h =
    let u = paste t b x n in
    let i : b + n + m ≡ b + (n + m) = omega arith in
    let p : take (b + n) u ≡ take b t ++ take n x = take-paste t b x n (omega arith) (omega arith) in
    let q : drop (b + n + m) u ≡ drop (b + (n + m)) t =
    sym (drop-drop m (b + n) u) ∙ ap (drop m) (drop-paste t b x n (omega arith) (omega arith)) ∙ drop-drop m (b + n) t ∙ ap (λ (k : ℕ). drop k t) i in
    let r : take n x ++ take m y ≡ take (n + m) (x ++ y) =
    ap (λ (z : List ℕ). z ++ take m y) (take_all n x (omega arith)) ∙ sym (take-append-add x y m) ∙ ap (λ (k : ℕ). take (k + m) (x ++ y)) e in
    ap₂ (λ (y₀ z : List ℕ). y₀ ++ take m y ++ z) p q
    ∙ ap (λ (z : List ℕ). z ++ drop (b + (n + m)) t) (append_assoc (take b t) (take n x) (take m y) ∙ ap (λ (z : List ℕ). take b t ++ z) r)

-- three stretches that cover a block
pub block_put : (z x y w : List ℕ) (u : ℕ) → length z ≡ 64 → length x ≡ u → u + length y ≡ 56 → length w ≡ 8
    → paste (paste (paste z 0 x (length x)) u y (length y)) 56 w 8 ≡ x ++ y ++ w
block_put z x y w u hz hx hy hw =
    let e : u ≡ 0 + length x = omega arith in
    let m = length y in
    let l : length (x ++ y) ≡ 56 = length-append x y ∙ omega arith in
    let n : length x + m ≡ 56 = omega arith in
    let v : length (x ++ y ++ w) ≡ 64 = length-append (x ++ y) w ∙ omega (arith, l) in
    ap (λ (i : ℕ). paste (paste (paste z 0 x (length x)) i y m) 56 w 8) e
    ∙ ap (λ (i : List ℕ). paste i 56 w 8) (paste-append z 0 x y (length x) m refl (omega arith) ∙ ap (paste z 0 (x ++ y)) n)
    ∙ paste-append z 0 (x ++ y) w 56 8 l (omega arith)
    ∙ paste-whole z (x ++ y ++ w) 64 hz v

pub length-zeros : (u : ℕ) → u < 56 → u + length {A = ℕ} (0x80 ∷ replicate ((119 - u) % 64) 0) ≡ 56
length-zeros u h =
    let z : ℕ = 0 in
    let e : (119 - u) % 64 ≡ 55 - u = omega arith in
    let l = length-replicate ((119 - u) % 64) z in
    omega arith

length-padding : (n : ℕ) → n % 64 < 56 → n % 64 + length (padding n) ≡ 64
length-padding n h =
    let z = length-zeros (n % 64) h in
    omega (arith, length-append (0x80 ∷ replicate ((119 - n % 64) % 64) 0) (to_be_bytes w64 (n * 8 % 2 ^ 64)))

-- the digest, where the padding fits into the last block
pub sha256_by : (m : List ℕ) → length m % 64 < 56
    → digest_bytes (compress (hash_after initial_hash_256 m (length m / 64)) (drop (length m / 64 * 64) m ++ padding (length m))) 8 ≡ sha256 m
unfolding sha256
sha256_by m h =
    let q = length m / 64 in
    let p = padding (length m) in
    let l = length-padding (length m) h in
    let n : length (m ++ p) / 64 ≡ q + 1 = omega (arith, length-append m p) in
    let d = length-append (drop (q * 64) m) p in
    let b : take 64 (drop (q * 64) (m ++ p)) ≡ drop (q * 64) m ++ p = ap (take 64) (drop-append-le (q * 64) m p (omega arith)) ∙ take_all 64 (drop (q * 64) m ++ p) (omega (arith, length-drop (q * 64) m)) in
    let e : hash_after initial_hash_256 (m ++ p) (length (m ++ p) / 64) ≡ compress (hash_after initial_hash_256 m q) (drop (q * 64) m ++ p) =
    ap (hash_after initial_hash_256 (m ++ p)) n ∙ hash_after_next initial_hash_256 (m ++ p) q ∙ ap₂ compress (hash_after-append initial_hash_256 m p q (omega arith)) b in
    ap (λ (x : List ℕ). digest_bytes x 8) (sym e)

-- block i of a message
pub block_cut : (m : List ℕ) (i : ℕ) → take (64 * i + 64 - 64 * i) (drop (64 * i) m) ≡ take 64 (drop (i * 64) m)
block_cut m i =
    let a : 64 * i + 64 - 64 * i ≡ 64 = omega arith in
    let b : 64 * i ≡ i * 64 = omega arith in
    ap (λ (k : ℕ). take k (drop (64 * i) m)) a ∙ ap (λ (k : ℕ). take 64 (drop k m)) b
