-- Laws of lines: numbers digit by digit, and lengths.
use Rattle.std.proofs.Common.{◌≡◌, refl, ap, sym, ◌∙◌, List, [], ◌∷◌, ◌++◌, take, drop, append_assoc, append-nil, ℕ, zero, suc, ◌+◌, ◌-◌, ◌/◌, ◌%◌, ◌^◌, ◌≤◌, ◌<◌, arith, pow-suc, length, length-append, lt-ltb, le-ltb, add-one}
use Rattle.base.proofs.Words.{dec_lt, put_mid}
use Rattle.base.specs.Folds.{tab}
use Rattle.base.proofs.Ranges.{tab_next}
use Rattle.terms.specs.declared.Transaction.{Transaction}
use Rattle.std.proofs.lemmas.List.{drop-drop}
use Rattle.std.proofs.lemmas.List.Edits.{sets, sets-eq}
use Rattle.listing.specs.Lines.{digits_to, decimal, triple_fields, triples_fields}

digits_small : (k n : ℕ) → n < 10 → digits_to k n ≡ (48 + n) ∷ []
unfolding digits_to
digits_small zero n h = refl
digits_small (suc k) n h = rw (lt-ltb n 10 h) refl

digits_more : (k n : ℕ) → 10 ≤ n → digits_to (suc k) n ≡ digits_to k (n / 10) ++ ((48 + n % 10) ∷ [])
unfolding digits_to
digits_more k n h = rw (le-ltb n 10 h) refl

-- a larger bound gives the same digits
digits_same : (j k n : ℕ) → n ≤ j → n ≤ k → digits_to j n ≡ digits_to k n
digits_same zero k n h l = digits_small zero n (omega arith) ∙ sym (digits_small k n (omega arith))
digits_same (suc j) zero n h l = digits_small (suc j) n (omega arith) ∙ sym (digits_small zero n (omega arith))
digits_same (suc j) (suc k) n h l = go (dec_lt n 10) (λ h l. digits_same j k (n / 10) h l)
  where
    go : Dec (n < 10) → (n / 10 ≤ j → n / 10 ≤ k → digits_to j (n / 10) ≡ digits_to k (n / 10)) → digits_to (suc j) n ≡ digits_to (suc k) n
    go (yes s) f = digits_small (suc j) n s ∙ sym (digits_small (suc k) n s)
    go (no s) f =
        let g : 10 ≤ n = omega arith in
        digits_more j n g ∙ rw (f (omega arith) (omega arith)) (sym (digits_more k n g))

-- a number below ten is its digit, and another is its tenth part and its last digit
pub decimal-small : (n : ℕ) → n < 10 → decimal n ≡ (48 + n) ∷ []
unfolding decimal
decimal-small n h = digits_small n n h

pub decimal-more : (n : ℕ) → 10 ≤ n → decimal n ≡ decimal (n / 10) ++ ((48 + n % 10) ∷ [])
unfolding decimal
decimal-more zero h = absurd (omega arith)
decimal-more (suc k) h = digits_more k (suc k) h ∙ rw (digits_same k (suc k / 10) (suc k / 10) (omega arith) (omega arith)) refl

-- a number below a power of ten has no more digits than that
decimal-length : (k n : ℕ) → n < 10 ^ suc k → length (decimal n) ≤ suc k
decimal-length zero n h = rw (decimal-small n h) (omega arith)
decimal-length (suc k) n h = go (dec_lt n 10) (λ l. decimal-length k (n / 10) l)
  where
    go : Dec (n < 10) → (n / 10 < 10 ^ suc k → length (decimal (n / 10)) ≤ suc k) → length (decimal n) ≤ suc (suc k)
    go (yes s) f = rw (decimal-small n s) (omega arith)
    go (no s) f =
        let p = rw (pow-suc 10 (suc k)) at h in
        let l = f (omega arith) in
        rw (decimal-more n (omega arith), length-append (decimal (n / 10)) ((48 + n % 10) ∷ [])) (omega arith)

pub decimal_fits : (n : ℕ) → n < 4294967296 → length (decimal n) ≤ 10
decimal_fits n h = decimal-length 9 n (omega arith)

pub decimal_tenth : (n : ℕ) → 10 ≤ n → n < 4294967296 → length (decimal (n / 10)) ≤ 9
decimal_tenth n h l =
    let f = decimal_fits n l in
    let e = ap length (decimal-more n h) ∙ length-append (decimal (n / 10)) ((48 + n % 10) ∷ []) in
    omega arith

-- one transaction more
triples-more : (l : List Transaction) (x : Transaction) → triples_fields (l ++ (x ∷ [])) ≡ triples_fields l ++ triple_fields x
unfolding triples_fields
triples-more [] x = append-nil (triple_fields x)
triples-more (y ∷ l) x = rw (triples-more l x) (sym (append_assoc (triple_fields y) (triples_fields l) (triple_fields x)))

pub triples_next : (f : ℕ → Transaction) (k : ℕ) → triples_fields (tab f (k + 1)) ≡ triples_fields (tab f k) ++ triple_fields (f k)
triples_next f k = rw (add-one k, tab_next f k) (triples-more (tab f k) (f k))

pub triples_none : (f : ℕ → Transaction) → triples_fields (tab f 0) ≡ []
unfolding tab triples_fields
triples_none f = refl

-- bytes copied over those from a place on are put there one by one
pub copied : (w t : List ℕ) (at : ℕ) → at + length w ≤ length t → put_mid at (at + length w - at) t w ≡ sets t at w
copied w t at h = let n : at + length w - at ≡ length w = omega arith in rw (n, drop-drop (length w) at t) (sym (sets-eq w t at h ∙ append_assoc (take at t) w (drop (at + length w) t)))
