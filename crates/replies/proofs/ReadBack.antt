-- A number in decimal reads back as itself: it has no leading zeros, and its digits make it.
use Rattle.std.proofs.Common.{◌≡◌, refl, sym, ◌∙◌, ap, ℕ, zero, suc, ◌+◌, ◌*◌, ◌-◌, ◌/◌, ◌%◌, ◌≤◌, ◌<◌, Bool, true, false, cond, List, [], ◌∷◌, ◌++◌, length, get_or, length-append, Option, None, Some, ◌⊎◌, inl, inr, arith, le-leb, ne_eqb}
use Rattle.base.proofs.Words.{get_or-append, dec_lt}
use Rattle.std.specs.Option.{option_and_then}
use Rattle.std.specs.Char.{is_ascii_digit}
use Rattle.records.specs.Numbers.{at_most, digits_after, number_in}
use Rattle.listing.specs.Lines.{decimal}
use Rattle.listing.proofs.LineLaws.{decimal-small, decimal-more}

-- the number of at most 32 bits that one digit more makes
abbrev with_digit : ℕ → ℕ → Option ℕ
with_digit b v = cond (is_ascii_digit b) (at_most 4294967295 (v * 10 + (b - 48))) None

and_then_some : (o : Option ℕ) → option_and_then (λ n. Some n) o ≡ o
and_then_some None = refl
and_then_some (Some n) = refl

digits_snoc : (f : List ℕ) (v b : ℕ) → digits_after v (f ++ (b ∷ [])) ≡ option_and_then (with_digit b) (digits_after v f)
digits_snoc [] v b = go (is_ascii_digit b)
  where
    go : (d : Bool) → cond d (option_and_then (λ n. Some n) (at_most 4294967295 (v * 10 + (b - 48)))) None ≡ cond d (at_most 4294967295 (v * 10 + (b - 48))) None
    go true = and_then_some (at_most 4294967295 (v * 10 + (b - 48)))
    go false = refl
digits_snoc (x ∷ f) v b = go (is_ascii_digit x) (at_most 4294967295 (v * 10 + (x - 48))) (λ n. digits_snoc f n b)
  where
    go : (d : Bool) (o : Option ℕ) → ((n : ℕ) → digits_after n (f ++ (b ∷ [])) ≡ option_and_then (with_digit b) (digits_after n f))
        → cond d (option_and_then (λ n. digits_after n (f ++ (b ∷ []))) o) None ≡ option_and_then (with_digit b) (cond d (option_and_then (λ n. digits_after n f) o) None)
    go true None h = refl
    go true (Some n) h = h n
    go false o h = refl

a_digit : (v d : ℕ) → d < 10 → v * 10 + d ≤ 4294967295 → with_digit (48 + d) v ≡ Some (v * 10 + d)
a_digit v d h k =
    let e : 48 + d - 48 ≡ d = omega arith in
    rw (le-leb 48 (48 + d) (omega arith), le-leb (48 + d) 57 (omega arith), e, le-leb (v * 10 + d) 4294967295 k) refl

-- what the digits of n are
record Reads (n : ℕ) : Type 0 where
  makes : digits_after 0 (decimal n) ≡ Some n
  some_digit : 0 < length (decimal n)
  first : 0 < n → get_or (decimal n) 0 0 ≡ 48 → ⊥
  single : n < 10 → length (decimal n) ≡ 1

reads-small : (n : ℕ) → n < 10 → Reads n
reads-small n h =
    let e = decimal-small n h in
    let z : 0 * 10 + n ≡ n = omega arith in
    record {
      makes = rw e (digits_snoc [] 0 (48 + n) ∙ a_digit 0 n h (omega arith) ∙ ap Some z);
      some_digit = rw e (omega arith);
      first = λ k q. (let r = rw e at q in omega arith);
      single = λ _. rw e refl;
    }

reads_more : (n : ℕ) → 10 ≤ n → n ≤ 4294967295 → Reads (n / 10) → Reads n
reads_more n h m p =
    let e = decimal-more n h in
    let d = decimal (n / 10) in
    let b = 48 + n % 10 in
    let nz = p.first (omega arith) in
    let s : n / 10 * 10 + n % 10 ≡ n = omega arith in
    record {
      makes = rw e (digits_snoc d 0 b ∙ rw p.makes (a_digit (n / 10) (n % 10) (omega arith) (omega arith) ∙ ap Some s));
      some_digit = rw (e, length-append d (b ∷ [])) (omega arith);
      first = λ k q. nz (sym (get_or-append d (b ∷ []) 0 0 p.some_digit) ∙ rw e at q);
      single = λ l. absurd (omega arith);
    }

reads : (k n : ℕ) → n ≤ k → n ≤ 4294967295 → Reads n
reads zero n h m = reads-small n (omega arith)
reads (suc k) n h m = go (dec_lt n 10) (λ l. reads k (n / 10) l (omega arith))
  where
    go : Dec (n < 10) → (n / 10 ≤ k → Reads (n / 10)) → Reads n
    go (yes s) f = reads-small n s
    go (no s) f = reads_more n (omega arith) m (f (omega arith))

-- where there is no leading zero, the digits make the number
number-plain : (f : List ℕ) → 0 < length f → ((get_or f 0 0 ≡ 48 → ⊥) ⊎ (length f ≡ 1)) → number_in f ≡ digits_after 0 f
number-plain [] h p = absurd (omega arith)
number-plain (b ∷ []) h p = refl
number-plain (b ∷ c ∷ f) h (inl n) = rw (ne_eqb b 48 n) refl
number-plain (b ∷ c ∷ f) h (inr l) = absurd (omega arith)

-- what is written is read
pub read_back : (n : ℕ) → n ≤ 4294967295 → number_in (decimal n) ≡ Some n
read_back n m =
    let p = reads n n (omega arith) m in
    number-plain (decimal n) p.some_digit (go (dec_lt n 10)) ∙ p.makes
  where
    go : Dec (n < 10) → (get_or (decimal n) 0 0 ≡ 48 → ⊥) ⊎ (length (decimal n) ≡ 1)
    go (yes s) = inr ((reads n n (omega arith) m).single s)
    go (no s) = inl ((reads n n (omega arith) m).first (omega arith))
