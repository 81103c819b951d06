-- Laws of words put over a stretch: one after the other, and read back.
use Rattle.std.proofs.Common.{◌≡◌, ap, ap₂, sym, ◌∙◌, List, ◌++◌, append_assoc, ℕ, ◌+◌, ◌<◌, ◌≤◌, arith, length, get_or, take, drop, take_all, drop-drop}
use Rattle.base.proofs.Words.{paste, take-append-add, take-paste, drop-paste}
use Rattle.base.proofs.FoldLaws.{length-tab, get_d_tab, tab_get}
use Rattle.terms.specs.declared.sheet.Weight.{Weight}
use Rattle.terms.specs.Ranges.{weight_in}
use Rattle.words.specs.Words.{word, sixteen, weight_words}

pub length-sixteen : (x : List ℕ) → length (sixteen x) ≡ 16
unfolding sixteen
length-sixteen x = length-tab (word x) 16

pub in_sixteen : (x : List ℕ) (i : ℕ) → i < 16 → get_or (sixteen x) i 0 ≡ get_or x i 0
unfolding sixteen
in_sixteen x i h = get_d_tab (word x) 16 i 0 h

pub sixteen_all : (x : List ℕ) → length x ≡ 16 → sixteen x ≡ x
unfolding sixteen
sixteen_all x h = sym (tab_get x 16 0 h)

pub length-weights : (x : List Weight) → length (weight_words x) ≡ 16
unfolding weight_words
length-weights x = length-tab (weight_in x) 16

-- x of n words from b on, and then y of m words behind it, are the two at once
pub paste-append : (t : List ℕ) (b : ℕ) (x y : List ℕ) (n m : ℕ) → length x ≡ n → b + n ≤ length t → paste (paste t b x n) (b + n) y m ≡ paste t b (x ++ y) (n + m)
paste-append t b x y n m e h =
    let u = paste t b x n in
    let i : b + n + m ≡ b + (n + m) = omega arith in
    let p : take (b + n) u ≡ take b t ++ take n x = take-paste t b x n (omega arith) (omega arith) in
    let q : drop (b + n + m) u ≡ drop (b + (n + m)) t =
    sym (drop-drop m (b + n) u) ∙ ap (drop m) (drop-paste t b x n (omega arith) (omega arith)) ∙ drop-drop m (b + n) t ∙ ap (λ (k : ℕ). drop k t) i in
    let r : take n x ++ take m y ≡ take (n + m) (x ++ y) =
    ap (λ (z : List ℕ). z ++ take m y) (take_all n x (omega arith)) ∙ sym (take-append-add x y m) ∙ ap (λ (k : ℕ). take (k + m) (x ++ y)) e in
    ap₂ (λ (y₀ z : List ℕ). y₀ ++ take m y ++ z) p q
    ∙ ap (λ (z : List ℕ). z ++ drop (b + (n + m)) t) (append_assoc (take b t) (take n x) (take m y) ∙ ap (λ (z : List ℕ). take b t ++ z) r)
