-- Laws of cached committees: one round more, and all of them.
use Rattle.std.proofs.Common.{◌≡◌, add-one, set, sym, ap, ◌∙◌, List, ℕ, ◌+◌, ◌<◌, ◌≤◌, arith, length, get_or}
use Rattle.base.proofs.Words.{ℕ_discrete, get_or-map, length-map, paste, paste-suc, length-paste}
use Rattle.base.proofs.FoldLaws.{tab-same, tab_get}
use Rattle.base.proofs.PasteLaws.{paste-below, paste-inside}
use Rattle.terms.specs.declared.sheet.Weight.{Weight}
use Rattle.terms.specs.Ranges.{weight}
use Rattle.agreement.specs.Rules.{Chain}
use Rattle.terms.specs.Proposals.{Content}
use Rattle.terms.specs.declared.sheet.Settings.{Settings}
use Rattle.committee.specs.Committees.{committee_of}
use Rattle.chain_committees.specs.Caches.{first_round, words_at, weights_at, numbers, Caches}

-- a weight as a word
pub numbers_at : (w : List Weight) (i : ℕ) → get_or (numbers w) i 0 ≡ (get_or w i (weight 0)).0
numbers_at w i = get_or-map (λ (x : Weight). x.0) w i (weight 0)

-- one weight more is put
pub put_more : (t : List ℕ) (b : ℕ) (w : List Weight) (i : ℕ) → i < length w → b + i < length t → set (paste t b (numbers w) i) (b + i) (get_or w i (weight 0)).0 ≡ paste t b (numbers w) (i + 1)
put_more t b w i h l = rw (add-one i, ← numbers_at w i) (paste-suc t b (numbers w) i 0 (omega arith) (omega (arith, length-map w (λ (x : Weight). x.0))))

-- a window that begins above the ceiling
pub caches-far : (S : Settings) (c : Chain Content) (cache : List ℕ) → S.ceiling < first_round cache → Caches S c cache
caches-far S c cache h = record { committee = λ r u l. absurd (omega (arith, l.from)) }

module _ (S : Settings) (c : Chain Content) (first : ℕ) where
  -- the rounds from the first on and below q are cached
  pub record CachesTo (q : ℕ) (cache : List ℕ) : Type 0 where
    pub begins : first_round cache ≡ first
    pub committee : (r : ℕ) → first ≤ r → r < q → words_at first r + 16 ≤ length cache → weights_at cache (words_at first r) ≡ committee_of S c r

  -- round q, where there is room for it
  pub caches_more : {q : ℕ} {cache : List ℕ} (w : List Weight) → first ≤ q → words_at first q + 16 ≤ length cache → length w ≡ 16 → w ≡ committee_of S c q → CachesTo q cache
      → CachesTo (q + 1) (paste cache (words_at first q) (numbers w) 16)
  unfolding weights_at
  caches_more {q} {cache} w from room h e k =
      record { begins = paste-below cache (words_at first q) (numbers w) 16 room long 0 (omega arith) ∙ k.begins; committee = λ r f u l. go r f u l (ℕ_discrete r q) }
    where
      put : List ℕ
      put = paste cache (words_at first q) (numbers w) 16

      long : length (numbers w) ≡ 16
      long = length-map w (λ (x : Weight). x.0) ∙ h

      size : length put ≡ length cache
      size = length-paste cache (words_at first q) (numbers w) 16 room (omega (arith, long))

      go : (r : ℕ) → first ≤ r → r < q + 1 → words_at first r + 16 ≤ length put → Dec (r ≡ q) → weights_at put (words_at first r) ≡ committee_of S c r
      go r f u l (yes d) =
          rw d (tab-same (λ i. weight (get_or put (words_at first q + i) 0)) (λ i. get_or w i (weight 0)) 16
          (λ i lt. ap weight (paste-inside cache (words_at first q) (numbers w) 16 room long i lt ∙ numbers_at w i)) ∙ sym (tab_get w 16 (weight 0) h) ∙ e)
      go r f u l (no d) =
          tab-same (λ i. weight (get_or put (words_at first r + i) 0)) (λ i. weight (get_or cache (words_at first r + i) 0)) 16
          (λ i lt. ap weight (paste-below cache (words_at first q) (numbers w) 16 room long (words_at first r + i) (omega arith)))
          ∙ k.committee r f (omega arith) (omega (arith, size))
