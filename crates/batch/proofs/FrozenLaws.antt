-- On views: what accepts of later rounds leave alone, and so a certificate that got 11 gets 11 again, or 17 where its place is filled.
use Rattle.std.proofs.Common.{◌≡◌, refl, sym, ap, ◌∙◌, Bool, true, false, not, ◌&&◌, cond, true≢false, ◌⊎◌, inl, inr, [], ◌∷◌, ◌++◌, ℕ, ◌-◌, ◌<◌, ◌≤◌, arith, take, eqb, eq-eqb, Option, Some, None}
use Rattle.base.proofs.Words.{ℕ_discrete, not-true}
use Rattle.base.proofs.Bools.{both}
use Rattle.base.proofs.TestLaws.{any_same}
use Rattle.base.specs.Checks.{Checks, refusal}
use Rattle.base.proofs.CheckLaws.{refuses, passes, numbered}
use Rattle.base.proofs.Passed.{Given, passed}
use Rattle.base.specs.Sets.{contains}
use Rattle.agreement.specs.Dag.{is_held}
use Rattle.agreement.specs.Places.{is_place, put}
use Rattle.agreement.proofs.PlaceLaws.{place_true}
use Rattle.terms.specs.Proposals.{Content, same_proposal}
use Rattle.terms.proofs.ProposalLaws.{same-content}
use Rattle.terms.specs.declared.sheet.Settings.{Settings}
use Rattle.committee.specs.Instance.{rules}
use Rattle.committee.specs.Committees.{outsider, short}
use Rattle.rules.specs.Tests.{MemberView, signers_of, is_same, above, committee_in, unknown, missing}
use Rattle.rules.proofs.TestLaws.{unknown_not, round-fits}
use Rattle.rules.specs.Calls.{accept, accepting, ruled_refusal, result}
use Rattle.rules.proofs.CallLaws.{after-accept, result-refused, result-accepted}

-- ---- checks of which the last refuses

-- no check has the number n
unfoldable none_is : ℕ → Checks → Bool
none_is n [] = true
none_is n (c ∷ l) = not (eqb c.1 n) && none_is n l

-- where the last check gives n, and no other can, all others have let it pass
last-refused : {A : Type 0} (l : Checks) (b : Bool) (n : ℕ) → 0 < n → none_is n l ≡ true → refusal (l ++ ((b, n) ∷ [])) ≡ n → Given l (b ≡ true → A) → A
unfolding none_is refusal
last-refused [] b n from d h f = f (go b h)
  where
    go : (x : Bool) → cond x n 0 ≡ n → x ≡ true
    go true k = refl
    go false k = absurd (omega arith)
last-refused {A} (c ∷ l) b n from d h f = let q = both (not (eqb c.1 n)) (none_is n l) d in go c.0 refl h q (λ k g. last-refused l b n from q.1 k g)
  where
    go : (x : Bool) → c.0 ≡ x → cond x c.1 (refusal (l ++ ((b, n) ∷ []))) ≡ n → (not (eqb c.1 n) ≡ true) × (none_is n l ≡ true)
        → (refusal (l ++ ((b, n) ∷ [])) ≡ n → Given l (b ≡ true → A) → A) → A
    go true e k q rec = absurd (true≢false (sym (eq-eqb c.1 n k) ∙ not-true (eqb c.1 n) q.0))
    go false e k q rec = rec k (f e)

module _ (S : Settings) where
  -- a certificate that got 11 has passed every other check
  eleven_passed : {A : Type 0} (k : ℕ) (v : MemberView S) (p : Content) (e : ℕ) → ruled_refusal S k v (accept p e) ≡ 11
      → Given (take 10 (accepting S v p e)) (above p.round (missing S v p) ≡ true → A) → A
  unfolding ruled_refusal none_is
  eleven_passed k v p e h f = last-refused (take 10 (accepting S v p e)) (above p.round (missing S v p)) 11 (omega arith) refl h f

  -- so its round is in range, its place is free, and a previous certificate is missing
  pub record Eleven (v : MemberView S) (p : Content) : Type 0 where
    pub from : 0 < p.round
    pub to : p.round ≤ S.ceiling
    pub free : is_held (v.dag p.author p.round) ≡ false
    pub lacks : above p.round (missing S v p) ≡ true

  pub got_eleven : (k : ℕ) (v : MemberView S) (p : Content) (e : ℕ) → ruled_refusal S k v (accept p e) ≡ 11 → Eleven v p
  got_eleven k v p e h =
      eleven_passed k v p e h λ h4 h5 h6 h7 h14 h16 h17 h8 h9 h13 h11.
      let r = round-fits S p.round h5 in
      record { from = r.0; to = r.1; free = h17; lacks = h11 }

  -- ---- what later accepts leave alone

  -- only the certificates of the round before count
  missing-below : (v w : MemberView S) (p : Content) → ((a : ℕ) → w.dag a (p.round - 1) ≡ v.dag a (p.round - 1)) → missing S w p ≡ missing S v p
  unfolding missing
  missing-below v w p e =
      any_same (λ i. contains p.previous i && not (is_held (w.dag i (p.round - 1)))) (λ i. contains p.previous i && not (is_held (v.dag i (p.round - 1)))) 16 (λ i h. rw (e i) refl)

  -- of two certificates one misses a previous one and the other none: they are not the same
  pub not_same : (r : ℕ) (v : MemberView S) (p c : Content) → above r (missing S v p) ≡ true → above r (missing S v c) ≡ false → same_proposal p c ≡ false
  not_same r v p c m n = go (same_proposal p c) refl
    where
      go : (b : Bool) → same_proposal p c ≡ b → b ≡ false
      go false y = refl
      go true y = absurd (true≢false (sym m ∙ ap (λ (x : Content). above r (missing S v x)) (same-content p c y) ∙ n))

  module _ (By : Content → Type 0) (r : ℕ) (v : MemberView S) where
    -- a place of round r is filled with a certificate that misses nothing; By tells who brought it
    pub record Filled (o : Option Content) : Type 0 where
      pub content : Content
      pub held : o ≡ Some content
      pub whole : above r (missing S v content) ≡ false
      pub by : By content

    -- w is v, but for certificates of rounds from r on; where round r has others than in v, they were filled in
    pub record Frozen (w : MemberView S) : Type 0 where
      pub chain : w.chain ≡ v.chain
      pub below : (a q : ℕ) → q < r → w.dag a q ≡ v.dag a q
      pub here : (a : ℕ) → (w.dag a r ≡ v.dag a r) ⊎ Filled (w.dag a r)

  pub frozen_same : (By : Content → Type 0) (r : ℕ) (v : MemberView S) → Frozen By r v v
  frozen_same By r v = record { chain = refl; below = λ a q h. refl; here = λ a. inl refl }

  -- an accept of round r or later
  module _ {By : Content → Type 0} (k r : ℕ) (from : 0 < r) (v w : MemberView S) (z : Frozen By r v w) (p : Content) (e : ℕ) (late : r ≤ p.round) where
    pub accept-frozen : (ruled_refusal S k w (accept p e) ≡ 0 → By p) → Frozen By r v (result S k w (accept p e))
    unfolding ruled_refusal numbered put
    accept-frozen by = go (ℕ_discrete (ruled_refusal S k w (accept p e)) 0)
      where
        whole : above p.round (missing S w p) ≡ false → p.round ≡ r → above r (missing S v p) ≡ false
        whole h i = rw (← i, ← missing-below v w p (λ a. z.below a (p.round - 1) (omega arith))) h

        old : (a q : ℕ) → q < r → (b : Bool) → is_place (rules S) p a q ≡ b → cond b (Some p) (w.dag a q) ≡ v.dag a q
        old a q l true x = absurd (omega (arith, (place_true (rules S) p a q x).1))
        old a q l false x = z.below a q l

        here : By p → above p.round (missing S w p) ≡ false → (a : ℕ) (b : Bool) → is_place (rules S) p a r ≡ b
            → (cond b (Some p) (w.dag a r) ≡ v.dag a r) ⊎ Filled By r v (cond b (Some p) (w.dag a r))
        here y h a true x = inr (record { content = p; held = refl; whole = whole h (place_true (rules S) p a r x).1; by = y })
        here y h a false x = z.here a

        go : Dec (ruled_refusal S k w (accept p e) ≡ 0) → Frozen By r v (result S k w (accept p e))
        go (no d) = rw (result-refused S k w (accept p e) d) z
        go (yes d) =
            passed (accepting S w p e) refl d λ h4 h5 h6 h7 h14 h16 h17 h8 h9 h13 h11.
            rw (result-accepted S k w (accept p e) d, after-accept S k w p e)
            (record { chain = z.chain; below = λ a q l. old a q l (is_place (rules S) p a q) refl; here = λ a. here (by d) h11 a (is_place (rules S) p a r) refl })

  -- ---- again

  -- nothing held there is no certificate that is the same
  none-same : (p : Content) (o : Option Content) → is_held o ≡ false → is_same p o ≡ false
  none-same p None h = refl
  none-same p (Some q) h = absurd (true≢false h)

  -- offered on v it gets 11, and w is v but for certificates of its round and later ones
  pub again-frozen : (By : Content → Type 0) (k : ℕ) (v w : MemberView S) (p : Content) (e : ℕ) → ruled_refusal S k v (accept p e) ≡ 11 → Frozen By p.round v w
      → ruled_refusal S k w (accept p e) ≡ cond (is_held (w.dag p.author p.round)) 17 11
  unfolding ruled_refusal
  again-frozen By k v w p e h z =
      eleven_passed k v p e h λ h4 h5 h6 h7 h14 h16 h17 h8 h9 h13 h11.
      passes 4 _ h4 ∙ passes 5 _ h5 ∙ passes 6 _ h6 ∙ passes 7 _ h7 ∙ passes 14 _ h14
      ∙ passes 16 _ (other h11 h17 (z.here p.author))
      ∙ place (is_held (w.dag p.author p.round)) refl h8 h9 h13 h11 (round-fits S p.round h5).0
    where
      other : above p.round (missing S v p) ≡ true → is_held (v.dag p.author p.round) ≡ false
          → (w.dag p.author p.round ≡ v.dag p.author p.round) ⊎ Filled By p.round v (w.dag p.author p.round) → is_same p (w.dag p.author p.round) ≡ false
      other m n (inl x) = rw x (none-same p (v.dag p.author p.round) n)
      other m n (inr x) = rw x.held (not_same p.round v p x.content m x.whole)

      place : (b : Bool) → is_held (w.dag p.author p.round) ≡ b → unknown S v p.round ≡ false → outsider (committee_in S v p.round) (contains (signers_of p e)) ≡ false
          → short S.margin (committee_in S v p.round) (contains (signers_of p e)) ≡ false → above p.round (missing S v p) ≡ true → 0 < p.round
          → refusal
          ((is_held (w.dag p.author p.round), 17)
          ∷ (unknown S w p.round, 8)
          ∷ (outsider (committee_in S w p.round) (contains (signers_of p e)), 9)
          ∷ (short S.margin (committee_in S w p.round) (contains (signers_of p e)), 13)
          ∷ (above p.round (missing S w p), 11) ∷ [])
          ≡ cond b 17 11
      place true x a8 a9 a13 a11 from = refuses 17 _ x
      place false x a8 a9 a13 a11 from =
          passes 17 _ x
          ∙ passes 8 _ (unknown_not S w p.round ∙ rw z.chain (sym (unknown_not S v p.round) ∙ a8))
          ∙ passes 9 _ (rw z.chain a9)
          ∙ passes 13 _ (rw z.chain a13)
          ∙ refuses 11 _ (rw (missing-below v w p (λ a. z.below a (p.round - 1) (omega arith))) a11)
