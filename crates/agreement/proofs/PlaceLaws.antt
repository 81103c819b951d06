-- What is found at each place after a certificate is put or a mark is set.
use Rattle.std.proofs.Common.{◌≡◌, refl, sym, ◌∙◌, Bool, true, false, cond, ◌⊎◌, inl, inr, ℕ, eqb, eqb-true, eq-eqb, Option, Some, None}
use Rattle.std.proofs.lemmas.Option.{same_Some, none-some}
use Rattle.base.proofs.Bools.{both}
use Rattle.agreement.specs.Rules.{Rules}
use Rattle.agreement.specs.Places.{is_place, put, mark}

module _ (R : Rules) where
  open R use {P, author, round}

  pub place_true : (p : P) (a r : ℕ) → is_place R p a r ≡ true → (author p ≡ a) × (round p ≡ r)
  unfolding is_place
  place_true p a r h =
      let k = both (eqb a (author p)) (eqb r (round p)) h in
      (sym (eqb-true a (author p) k.0), sym (eqb-true r (round p) k.1))

  own-place : (p : P) → is_place R p (author p) (round p) ≡ true
  unfolding is_place
  own-place p = rw (eq-eqb (author p) (author p) refl, eq-eqb (round p) (round p) refl) refl

  pub put-own : (p : P) (d : ℕ → ℕ → Option P) → put R p d (author p) (round p) ≡ Some p
  unfolding put
  put-own p d = rw (own-place p) refl

  -- what was held is held, where the place was free
  pub put-old : (p : P) (d : ℕ → ℕ → Option P) → d (author p) (round p) ≡ None → {a r : ℕ} {q : P} → d a r ≡ Some q → put R p d a r ≡ Some q
  unfolding put
  put-old p d free {a} {r} {q} h = go (is_place R p a r) refl
    where
      go : (b : Bool) → is_place R p a r ≡ b → cond b (Some p) (d a r) ≡ Some q
      go true e = let x = place_true p a r e in absurd (none-some q (sym free ∙ (rw (x.0, x.1) h)))
      go false e = h

  -- what is held then is p, or was held
  pub put_only : (p : P) (d : ℕ → ℕ → Option P) {a r : ℕ} {q : P} → put R p d a r ≡ Some q → ((author p ≡ a) × (round p ≡ r) × (p ≡ q)) ⊎ (d a r ≡ Some q)
  unfolding put
  put_only p d {a} {r} {q} h = go (is_place R p a r) refl h
    where
      go : (b : Bool) → is_place R p a r ≡ b → cond b (Some p) (d a r) ≡ Some q → ((author p ≡ a) × (round p ≡ r) × (p ≡ q)) ⊎ (d a r ≡ Some q)
      go true e k = let x = place_true p a r e in inl (x.0, x.1, same_Some p q k)
      go false e k = inr k

  pub mark-own : (b : Bool) (p : P) (e : ℕ → ℕ → Bool) → mark R b p e (author p) (round p) ≡ b
  unfolding mark
  mark-own b p e = rw (own-place p) refl

  -- marks stay but at the place of p
  pub mark-other : (b : Bool) (p : P) (e : ℕ → ℕ → Bool) (a r : ℕ) → ((author p ≡ a) × (round p ≡ r)) ⊎ (mark R b p e a r ≡ e a r)
  unfolding mark
  mark-other b p e a r = go (is_place R p a r) refl
    where
      go : (t : Bool) → is_place R p a r ≡ t → ((author p ≡ a) × (round p ≡ r)) ⊎ (cond t b (e a r) ≡ e a r)
      go true i = inl (place_true p a r i)
      go false i = inr refl
