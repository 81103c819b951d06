-- One byte more of a listing is read.
use Rattle.std.proofs.Common.{◌≡◌, refl, sym, ap, ◌∙◌, List, [], ◌∷◌, ◌++◌, append_assoc, append-nil, ℕ, ◌+◌, ◌<◌, arith, length, get_or, get_or-append-add}

-- l is a prefix of m
abbrev pub PrefixOf : List ℕ → List ℕ → Type 0
PrefixOf l m = (more : List ℕ) × (m ≡ l ++ more)

pub prefix-none : (m : List ℕ) → PrefixOf [] m
prefix-none m = (m, refl)

pub prefix-grown : (l m k : List ℕ) → PrefixOf l m → PrefixOf m k → PrefixOf l k
prefix-grown l m k x y = (x.0 ++ y.0, y.1 ∙ ap (λ (z : List ℕ). z ++ y.0) x.1 ∙ append_assoc l x.0 y.0)

pub prefix-next : (l m : List ℕ) → PrefixOf l m → length l < length m → PrefixOf (l ++ (get_or m (length l) 0 ∷ [])) m
prefix-next l m x h = go x.0 x.1
  where
    go : (more : List ℕ) → m ≡ l ++ more → PrefixOf (l ++ (get_or m (length l) 0 ∷ [])) m
    go [] e = absurd (omega (arith, ap length (e ∙ append-nil l)))
    go (b ∷ more) e =
        let z : length l + 0 ≡ length l = omega arith in
        let q : get_or m (length l) 0 ≡ b = ap (λ (k : List ℕ). get_or k (length l) 0) e ∙ rw z at (get_or-append-add l (b ∷ more) 0 0) in
        (more, e ∙ rw q (sym (append_assoc l (b ∷ []) more)))
