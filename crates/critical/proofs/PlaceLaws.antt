-- Laws of critical places as words.
use Rattle.std.proofs.Common.{◌≡◌, refl, ap, true, false, List, [], ◌∷◌, ◌++◌, ℕ, suc, ◌+◌, ◌-◌, ◌*◌, length, set, inl, inr, arith}
use Rattle.base.specs.Puts.{Puts}
use Rattle.base.proofs.PutLaws.{puts_then, puts_as}
use Rattle.state.specs.declared.State.{State}
use Rattle.critical.specs.Answers.{Near}
use Rattle.critical.specs.Critical.{Place, place_words, is_critical, critical_at, critical_in, critical_places}

-- both rounds are near, whichever is listed first
pub near_now : (s : State) {q : ℕ} → q ≡ s.round → Near s q
near_now s e = inl e

pub near_before : (s : State) {q : ℕ} → q ≡ s.round - 1 → Near s q
near_before s e = inr e

words_append : (l m : List Place) → place_words (l ++ m) ≡ place_words l ++ place_words m
unfolding place_words
words_append [] m = refl
words_append (x ∷ l) m = ap (λ (w : List ℕ). x.round ∷ x.author ∷ w) (words_append l m)

module _ (s : State) (t : List ℕ) (q : ℕ) where
  pub place_there : (a : ℕ) → is_critical s t a q ≡ true → place_words (critical_at s t a q) ≡ q ∷ a ∷ []
  unfolding critical_at place_words
  place_there a e = rw e refl

  pub place_none : (a : ℕ) → is_critical s t a q ≡ false → place_words (critical_at s t a q) ≡ []
  unfolding critical_at place_words
  place_none a e = rw e refl

  pub row-none : place_words (critical_in s t q 0) ≡ []
  unfolding critical_in place_words
  row-none = refl

  row-suc : (k : ℕ) → place_words (critical_in s t q (suc k)) ≡ place_words (critical_in s t q k) ++ place_words (critical_at s t k q)
  unfolding critical_in
  row-suc k = words_append (critical_in s t q k) (critical_at s t k q)

  pub row_more : (n : ℕ) → place_words (critical_in s t q (n + 1)) ≡ place_words (critical_in s t q n) ++ place_words (critical_at s t n q)
  row_more n = let e : n + 1 ≡ suc n = omega arith in rw e (row-suc n)

pub words-length : (l : List Place) → length (place_words l) ≡ 2 * length l
unfolding place_words
words-length [] = refl
words-length (x ∷ l) = omega (arith, words-length l)

places-words : (s : State) (t : List ℕ) → place_words (critical_places s t) ≡ place_words (critical_in s t (s.round - 1) 16) ++ place_words (critical_in s t s.round 16)
unfolding critical_places
places-words s t = words_append (critical_in s t (s.round - 1) 16) (critical_in s t s.round 16)

-- the round before first, and then the present one
pub places_put : (s : State) (t : List ℕ) {list list₁ list₂ : List ℕ} {q r row put : ℕ} → q ≡ s.round - 1 → r ≡ s.round → Puts list list₁ 0 row (place_words (critical_in s t q 16)) 32 → Puts list₁ list₂ row put (place_words (critical_in s t r 16)) 32 → Puts list list₂ 0 put (place_words (critical_places s t)) 64
places_put s t before now x y = puts_as {n = 64} (places-words s t) (omega arith) (puts_then (rw before at x) (rw now at y))

-- the two words of a place
pub place_put : (t : List ℕ) (at q a : ℕ) → Puts t (set (set t at q) (at + 1) a) at (at + 2) (q ∷ a ∷ []) 2
place_put t at q a = let one : at + 1 ≡ suc at = omega arith in record { bytes = rw one refl; past = refl; room = omega arith }
