-- The words of a port, put.
use Rattle.std.proofs.Common.{◌≡◌, refl, sym, ◌∙◌, List, [], ◌∷◌, ◌≢◌, ℕ, zero, suc, ◌+◌, ◌-◌, ◌<◌, ◌≤◌, arith, length, length-set, get_or, set, ext_get_or, get_or-set_same, get_or-set_other}
use Rattle.base.proofs.Words.{ℕ_discrete, dec_lt, paste, length-paste}
use Rattle.base.proofs.PasteLaws.{paste-below, paste-inside, paste-above}
use Rattle.ports.specs.Ports.{port_start, port_word}

-- a table that has n words w from b on, and is t else
pub paste-by : (t u : List ℕ) (b : ℕ) (w : List ℕ) (n : ℕ) → b + n ≤ length t → length w ≡ n → length u ≡ length t
    → ((i : ℕ) → i < b → get_or u i 0 ≡ get_or t i 0) → ((i : ℕ) → b + n ≤ i → get_or u i 0 ≡ get_or t i 0) → ((k : ℕ) → k < n → get_or u (b + k) 0 ≡ get_or w k 0) → u ≡ paste t b w n
paste-by t u b w n h l e below above inside = ext_get_or 0 u (paste t b w n) (e ∙ sym (length-paste t b w n (omega arith) (omega arith))) (λ i k. go i (dec_lt i b) (dec_lt i (b + n)))
  where
    go : (i : ℕ) → Dec (i < b) → Dec (i < b + n) → get_or u i 0 ≡ get_or (paste t b w n) i 0
    go i (yes a) d = below i a ∙ sym (paste-below t b w n h l i a)
    go i (no a) (yes c) =
        let z : b + (i - b) ≡ i = omega arith in
        rw z at (inside (i - b) (omega arith) ∙ sym (paste-inside t b w n h l (i - b) (omega arith)))
    go i (no a) (no c) = above i (omega arith) ∙ sym (paste-above t b w n h l i (omega arith))

-- the words that a port has
abbrev pub own : List ℕ → ℕ → List ℕ
own t g = port_word t g 0 ∷ port_word t g 1 ∷ port_word t g 2 ∷ port_word t g 3 ∷ port_word t g 4 ∷ port_word t g 5 ∷ port_word t g 6 ∷ port_word t g 7 ∷ []

pub own_at : (t : List ℕ) (g k : ℕ) → k < 8 → get_or (own t g) k 0 ≡ port_word t g k
own_at t g zero h = refl
own_at t g (suc zero) h = refl
own_at t g (suc (suc zero)) h = refl
own_at t g (suc (suc (suc zero))) h = refl
own_at t g (suc (suc (suc (suc zero)))) h = refl
own_at t g (suc (suc (suc (suc (suc zero))))) h = refl
own_at t g (suc (suc (suc (suc (suc (suc zero)))))) h = refl
own_at t g (suc (suc (suc (suc (suc (suc (suc zero))))))) h = refl
own_at t g (suc (suc (suc (suc (suc (suc (suc (suc k)))))))) h = absurd (omega arith)

module _ (t : List ℕ) (g : ℕ) (room : port_start g + 8 ≤ length t) where
  -- put over themselves
  pub same_own : t ≡ paste t (port_start g) (own t g) 8
  unfolding port_word
  same_own = paste-by t t (port_start g) (own t g) 8 room refl refl (λ i h. refl) (λ i h. refl) (λ k h. sym (own_at t g k h))

  -- one of them set
  pub set_own : (k v : ℕ) → k < 8 → set t (port_start g + k) v ≡ paste t (port_start g) (set (own t g) k v) 8
  unfolding port_word
  set_own k v h =
      paste-by t (set t (port_start g + k) v) (port_start g) (set (own t g) k v) 8 room (length-set (own t g) k v) (length-set t (port_start g + k) v)
      (λ i l. get_or-set_other t (port_start g + k) i v 0 (λ e. absurd (omega arith)))
      (λ i l. get_or-set_other t (port_start g + k) i v 0 (λ e. absurd (omega arith)))
      (λ i l. go i l (ℕ_discrete i k))
    where
      go : (i : ℕ) → i < 8 → Dec (i ≡ k) → get_or (set t (port_start g + k) v) (port_start g + i) 0 ≡ get_or (set (own t g) k v) i 0
      go i l (yes e) = rw e (get_or-set_same t (port_start g + k) v 0 (omega arith) ∙ sym (get_or-set_same (own t g) k v 0 h))
      go i l (no n) = get_or-set_other t (port_start g + k) (port_start g + i) v 0 (λ e. n (omega arith)) ∙ sym (own_at t g i l) ∙ sym (get_or-set_other (own t g) k i v 0 n)

  -- the first two of them set
  pub set-two : (q i : ℕ) → set (set t (port_start g + 0) q) (port_start g + 1) i ≡ paste t (port_start g) (q ∷ i ∷ port_word t g 2 ∷ port_word t g 3 ∷ port_word t g 4 ∷ port_word t g 5 ∷ port_word t g 6 ∷ port_word t g 7 ∷ []) 8
  unfolding port_word
  set-two q i =
      paste-by t (set (set t (port_start g + 0) q) (port_start g + 1) i) (port_start g) (q ∷ i ∷ port_word t g 2 ∷ port_word t g 3 ∷ port_word t g 4 ∷ port_word t g 5 ∷ port_word t g 6 ∷ port_word t g 7 ∷ []) 8 room refl (length-set (set t (port_start g + 0) q) (port_start g + 1) i ∙ length-set t (port_start g + 0) q)
      (λ k l. elsewhere k (λ e. absurd (omega arith)) (λ e. absurd (omega arith)))
      (λ k l. elsewhere k (λ e. absurd (omega arith)) (λ e. absurd (omega arith)))
      inside
    where
      elsewhere : (k : ℕ) → k ≢ port_start g + 1 → k ≢ port_start g + 0 → get_or (set (set t (port_start g + 0) q) (port_start g + 1) i) k 0 ≡ get_or t k 0
      elsewhere k a b = get_or-set_other (set t (port_start g + 0) q) (port_start g + 1) k i 0 a ∙ get_or-set_other t (port_start g + 0) k q 0 b

      inside : (k : ℕ) → k < 8 → get_or (set (set t (port_start g + 0) q) (port_start g + 1) i) (port_start g + k) 0 ≡ get_or (q ∷ i ∷ port_word t g 2 ∷ port_word t g 3 ∷ port_word t g 4 ∷ port_word t g 5 ∷ port_word t g 6 ∷ port_word t g 7 ∷ []) k 0
      inside zero h = get_or-set_other (set t (port_start g + 0) q) (port_start g + 1) (port_start g + 0) i 0 (λ e. absurd (omega arith)) ∙ get_or-set_same t (port_start g + 0) q 0 (omega arith)
      inside (suc zero) h = get_or-set_same (set t (port_start g + 0) q) (port_start g + 1) i 0 (omega (arith, length-set t (port_start g + 0) q))
      inside (suc (suc k)) h = elsewhere (port_start g + suc (suc k)) (λ e. absurd (omega arith)) (λ e. absurd (omega arith)) ∙ sym (own_at t g (suc (suc k)) h)
