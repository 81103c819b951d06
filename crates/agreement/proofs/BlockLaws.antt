-- A computed block holds what of its anchor's history is in no block before it.
use Rattle.std.proofs.Common.{◌≡◌, refl, sym, ap, ◌∙◌, subst, Bool, true, false, not, ◌&&◌, ◌||◌, cond, true≢false, [], ◌∷◌, inl, inr, ℕ, ◌+◌, ◌≤◌, ◌<◌, Option, Some, None}
use Rattle.base.proofs.Words.{false≢true, or-true}
use Rattle.std.proofs.lemmas.Option.{same_Some, none-some}
use Rattle.agreement.specs.Rules.{Chain, last, Rules}
use Rattle.agreement.specs.View.{View}
use Rattle.agreement.specs.Dag.{is_held, Held, Placed, Reach}
use Rattle.agreement.specs.Anchors.{Anchor}
use Rattle.agreement.specs.Links.{InChain, Uncommitted, Link, Linked}
use Rattle.agreement.proofs.DagLaws.{on-place, reach_held}
use Rattle.agreement.specs.Histories.{in_history}
use Rattle.agreement.proofs.HistoryLaws.{history_reach, reach_history}
use Rattle.agreement.specs.Commits.{in_chain, block_of}

module _ {R : Rules} (s : View R) where
  open R use {P, author, round}

  -- every block of the chain holds what s holds
  abbrev pub FromDag : Chain P → Type 0
  FromDag [] = Unit {0}
  FromDag (b ∷ c) = ((a r : ℕ) (q : P) → b.holds a r ≡ Some q → s.dag a r ≡ Some q) × FromDag c

  -- a place is used where its certificate is in a block
  in_used : (c : Chain P) (p : P) → InChain R c p → in_chain c (author p) (round p) ≡ true
  unfolding in_chain
  in_used [] p h = absurd h
  in_used (b ∷ c) p (inl e) = rw e refl
  in_used (b ∷ c) p (inr h) = rw (in_used c p h) (or-true (is_held (b.holds (author p) (round p))))

  used_in : (c : Chain P) (p : P) → FromDag c → Held s p → in_chain c (author p) (round p) ≡ true → InChain R c p
  unfolding in_chain
  used_in [] p x h u = absurd (false≢true u)
  used_in (b ∷ c) p x h u = go (b.holds (author p) (round p)) refl u (used_in c p x.1 h)
    where
      go : (o : Option P) → b.holds (author p) (round p) ≡ o → (is_held o || in_chain c (author p) (round p)) ≡ true
          → (in_chain c (author p) (round p) ≡ true → InChain R c p) → InChain R (b ∷ c) p
      go None e k f = inr (f k)
      go (Some q) e k f = inl (e ∙ ap Some (same_Some q p (sym (x.0 (author p) (round p) q e) ∙ h)))

  pub block-from-dag : (x : P) (c : Chain P) (a r : ℕ) (q : P) → (block_of s x c).holds a r ≡ Some q → s.dag a r ≡ Some q
  unfolding block_of
  block-from-dag x c a r q h = go (in_history s x r a && not (in_chain c a r)) h
    where
      go : (b : Bool) → cond b (s.dag a r) None ≡ Some q → s.dag a r ≡ Some q
      go true k = k
      go false k = absurd (none-some q k)

module _ {R : Rules} {s : View R} (X : Placed s) where
  open R use {P, round}

  pub linked-from-dag : (c : Chain P) → Linked s c → FromDag s c
  linked-from-dag [] l = tt
  linked-from-dag (b ∷ c) l = (from-dag, linked-from-dag c l.3)
    where
      from-dag : (a r : ℕ) (q : P) → b.holds a r ≡ Some q → s.dag a r ≡ Some q
      from-dag a r q h =
          let f = (l.1.content a r q).0 h in
          rw (f.by, f.at) at (reach_held X (on-place X l.1.sees.held) f.reached)

  module _ (x : P) (c : Chain P) (hc : FromDag s c) (hx : Held s x) where
    uncommitted_unused : {a r : ℕ} {p : P} → Uncommitted s c x a r p → in_chain c a r ≡ false
    uncommitted_unused {a} {r} {p} f = go (in_chain c a r) refl
      where
        go : (b : Bool) → in_chain c a r ≡ b → b ≡ false
        go true e = absurd (f.unused (used_in s c p hc (reach_held X hx f.reached) (rw (f.by, f.at) e)))
        go false e = refl

    -- the computed block holds what of the history of x is in no block
    content_uncommitted : {a r : ℕ} {p : P} → (block_of s x c).holds a r ≡ Some p → Uncommitted s c x a r p
    unfolding block_of
    content_uncommitted {a} {r} {p} h = go (in_history s x r a) (in_chain c a r) refl refl h
      where
        go : (i u : Bool) → in_history s x r a ≡ i → in_chain c a r ≡ u → cond (i && not u) (s.dag a r) None ≡ Some p → Uncommitted s c x a r p
        go true true ei eu k = absurd (none-some p k)
        go true false ei eu k =
            let e = X.place k in
            let q = history_reach X hx r a ei in
            record {
              by = e.0;
              at = e.1;
              reached = subst (λ (z : P). Reach s x z) (same_Some q.0 p (sym q.1 ∙ k)) q.2;
              unused = λ m. true≢false (sym (rw (e.0, e.1) at (in_used s c p m)) ∙ eu);
            }
        go false u ei eu k = absurd (none-some p k)

    uncommitted_content : {a r : ℕ} {p : P} → Uncommitted s c x a r p → (block_of s x c).holds a r ≡ Some p
    unfolding block_of
    uncommitted_content {a} {r} {p} f =
        let i : in_history s x r a ≡ true = rw (f.by, f.at) at (reach_history X hx f.reached) in
        rw (i, uncommitted_unused f) (rw (f.by, f.at) at (reach_held X hx f.reached))

    -- so the computed block may stand on the chain
    pub link-made : Anchor s (round x) x → last c + 2 ≤ round x
        → ((r : ℕ) (q : P) → last c < r → r < round x → Anchor s r q → ¬ Reach s x q) → Link s (block_of s x c) c x
    unfolding block_of
    link-made a l g = record { sees = a; spaced = l; gap = g; content = λ i r p. (content_uncommitted, uncommitted_content) }
