-- Laws of what a transaction does to one weight, in numbers alone.
use Rattle.std.proofs.Common.{◌≡◌, refl, ◌∙◌, Bool, true, false, cond, List, ℕ, zero, suc, ◌+◌, ◌%◌, ◌<◌, ◌≤◌, arith, set, ltb, lt-ltb, le-ltb}
use Rattle.base.proofs.Words.{dec_lt, set-get_or}
use Rattle.terms.specs.Transactions.{read_transaction}
use Rattle.terms.proofs.ProposalLaws.{read-bond, read-unbond, read-entry}
use Rattle.terms.specs.declared.sheet.Weight.{Weight}
use Rattle.terms.specs.Ranges.{weight, weight_in}
use Rattle.committee.specs.Changes.{change}
use Rattle.committee.specs.WeightEffects.{effect_of, weight_after}

-- no effect leaves the weights as they are
still : (w : List Weight) (i amount : ℕ) → set w i (weight (weight_after 2 amount (weight_in w i))) ≡ w
still w i amount =
    let e : weight_after 2 amount (weight_in w i) ≡ weight_in w i = omega arith in
    rw e (set-get_or w i (weight 0))

module _ (number amount : ℕ) (w : List Weight) where
  -- of a number that is no member's a transaction changes nothing
  outside : (kind : ℕ) → 16 ≤ number → w ≡ change (read_transaction kind number amount) w
  outside zero h = rw (read-bond number amount, le-ltb number 16 h) refl
  outside (suc zero) h = rw (read-unbond number amount, le-ltb number 16 h) refl
  outside (suc (suc k)) h = rw (read-entry k number amount) refl

  -- of a member's it changes that weight
  inside : (kind : ℕ) → number < 16 → set w number (weight (weight_after (cond (ltb 2 kind) 2 kind) amount (weight_in w number))) ≡ change (read_transaction kind number amount) w
  inside zero h = let e : weight_after 0 amount (weight_in w number) ≡ weight_in w number + amount = omega arith in rw (read-bond number amount, lt-ltb number 16 h, e) refl
  inside (suc zero) h = let e : weight_after 1 amount (weight_in w number) ≡ 0 = omega arith in rw (read-unbond number amount, lt-ltb number 16 h, e) refl
  inside (suc (suc zero)) h = rw (read-entry 0 number amount) (still w number amount)
  inside (suc (suc (suc k))) h = rw (read-entry (suc k) number amount, lt-ltb 2 (suc (suc (suc k))) (omega arith)) (still w number amount)

  -- the weight of the number's remainder by sixteen, after its effect: the others stay
  pub effect_changes : (there : Bool) (kind : ℕ)
      → set w (number % 16) (weight (weight_after (effect_of there kind number) amount (weight_in w (number % 16)))) ≡ cond there (change (read_transaction kind number amount) w) w
  unfolding effect_of
  effect_changes false kind = still w (number % 16) amount
  effect_changes true kind = go (dec_lt number 16)
    where
      go : Dec (number < 16) → set w (number % 16) (weight (weight_after (effect_of true kind number) amount (weight_in w (number % 16)))) ≡ change (read_transaction kind number amount) w
      go (yes h) = let e : number % 16 ≡ number = omega arith in rw (le-ltb 15 number (omega arith), e) (inside kind h)
      go (no h) = rw (lt-ltb 15 number (omega arith)) (still w (number % 16) amount ∙ outside kind (omega arith))
