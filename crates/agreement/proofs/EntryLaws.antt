-- What entries lead to: a call changes the state of the one who makes it, and what calls keep lasts.
use Rattle.std.proofs.Common.{◌≡◌, refl, sym, subst, Bool, true, false, cond, List, [], ◌∷◌, ◌≢◌, ℕ, eqb, eq-eqb, ne_eqb, eqb-true}
use Rattle.agreement.specs.Entries.{Entry, states}

module _ {State Call : Type 0} (after : ℕ → State → Call → State) (start : ℕ → State) where
  pub state-here : (e : Entry Call) (l : List (Entry Call)) → states after start (e ∷ l) e.who ≡ after e.who (states after start l e.who) e.call
  unfolding states
  state-here e l = rw (eq-eqb e.who e.who refl) refl

  pub state-other : (e : Entry Call) (l : List (Entry Call)) (i : ℕ) → i ≢ e.who → states after start (e ∷ l) i ≡ states after start l i
  unfolding states
  state-other e l i n = rw (ne_eqb i e.who n) refl

  module _ (H : ℕ → State → Call → Type 0) where
    -- H holds of each entry: of who makes it, on which state, and which call
    abbrev pub Each : List (Entry Call) → Type 0
    Each [] = Unit {0}
    Each (e ∷ l) = H e.who (states after start l e.who) e.call × Each l

    -- where two kinds of states are related at the start and calls with H keep them so, they are after each list of such calls
    pub related : {T : Type 0} (after₂ : ℕ → T → Call → T) (start₂ : ℕ → T) (R : ℕ → State → T → Type 0) → ((k : ℕ) (s : State) (t : T) (c : Call) → H k s c → R k s t → R k (after k s c) (after₂ k t c))
        → (i : ℕ) → R i (start i) (start₂ i) → (l : List (Entry Call)) → Each l → R i (states after start l i) (states after₂ start₂ l i)
    unfolding states
    related after₂ start₂ R f i r [] h = r
    related after₂ start₂ R f i r (e ∷ l) h = go (eqb i e.who) refl (related after₂ start₂ R f i r l h.1)
      where
        go : (b : Bool) → eqb i e.who ≡ b → R i (states after start l i) (states after₂ start₂ l i)
            → R i (cond b (after i (states after start l i) e.call) (states after start l i)) (cond b (after₂ i (states after₂ start₂ l i) e.call) (states after₂ start₂ l i))
        go true t x = f i _ _ e.call (subst (λ (k : ℕ). H k (states after start l k) e.call) (sym (eqb-true i e.who t)) h.0) x
        go false t x = x

    -- so what holds at the start and calls with H keep holds after each list of them
    pub kept : (Q : ℕ → State → Type 0) → ((k : ℕ) (s : State) (c : Call) → H k s c → Q k s → Q k (after k s c)) → (i : ℕ) → Q i (start i) → (l : List (Entry Call)) → Each l → Q i (states after start l i)
    kept Q f i q = related after start (λ k s t. Q k s) (λ k s t c. f k s c) i q
