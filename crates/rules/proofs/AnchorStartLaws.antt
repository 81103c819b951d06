-- In every state of a run, the order inside a block starts with the author of the block's anchor.
use Rattle.std.proofs.Common.{◌≡◌, refl, sym, ap, ◌∙◌, subst, Bool, true, List, [], ◌∷◌, ◌++◌, inl, inr, ◌≢◌, ℕ, ◌≤◌, ◌<◌, arith, Option, Some, None, unwrap_or}
use Rattle.agreement.specs.Rules.{Block, Chain, last}
use Rattle.agreement.specs.View.{Log}
use Rattle.agreement.specs.Dag.{Reach, here, back}
use Rattle.agreement.specs.Anchors.{Anchor}
use Rattle.agreement.specs.Links.{InChain, Link, Linked}
use Rattle.agreement.specs.Prefixes.{◌≼◌, same, grown}
use Rattle.agreement.specs.Invariants.{Invariant}
use Rattle.terms.specs.Proposals.{Content}
use Rattle.terms.specs.declared.sheet.Settings.{Settings}
use Rattle.terms.specs.Ranges.{weight_in}
use Rattle.committee.specs.Committees.{leader_by, committee_of, start_of}
use Rattle.committee.specs.Leaders.{leader_of}
use Rattle.committee.proofs.Lawful.{committee_below}
use Rattle.committee.specs.Instance.{rules}
use Rattle.terms.specs.declared.sheet.Weight.{Weight}
use Rattle.rules.specs.Tests.{MemberView}
use Rattle.rules.proofs.Implementations.{Implementation}
use Rattle.rules.proofs.Runs.{Group, Entries, chain_after, Run}
use Rattle.rules.proofs.RunAgreement.{run_invariant}
use Rattle.rules.specs.AnchorStarts.{StartsWithAnchor}

module _ (S : Settings) {correct : ℕ → Bool} {G : Log (rules S)} {k : ℕ} {s : MemberView S} {l : List Content} (I : Invariant correct G k s l) where
  -- a history goes down in rounds, from its certificate on
  reach_low : {x q : Content} → Reach s x q → q.round ≤ x.round
  reach_low here = omega arith
  reach_low (back m a e n h y) = omega (arith, (I.storing.place h).1, reach_low y)

  reach_same : {x q : Content} → Reach s x q → q.round ≡ x.round → q ≡ x
  reach_same here e = refl
  reach_same (back m a i n h y) e = absurd (omega (arith, (I.storing.place h).1, reach_low y))

  -- so no block holds a certificate of a round above its own, and neither does a chain of one above its last
  in_low : (c : Chain Content) → Linked s c → (p : Content) → InChain (rules S) c p → p.round ≤ last c
  in_low [] y p h = absurd h
  in_low (b ∷ c) y p (inl h) = omega (arith, (I.storing.place y.1.sees.held).1, reach_low ((y.1.content p.author p.round p).0 h).reached)
  in_low (b ∷ c) y p (inr h) = omega (arith, y.1.spaced, in_low c y.3 p h)

  -- the chain below some blocks is linked too
  linked-below : (newer c : Chain Content) → Linked s (newer ++ c) → Linked s c × (c ≼ (newer ++ c))
  linked-below [] c y = (y, same)
  linked-below (b ∷ newer) c y = let x = linked-below newer c y.3 in (x.0, grown b y.1.spaced x.1)

  pub starts : (newer : Chain Content) (b : Block Content) (c : Chain Content) → s.chain ≡ newer ++ (b ∷ c) → StartsWithAnchor S s.chain b c
  unfolding start_of leader_by
  starts newer b c e =
      record {
        leads = seen.leads ∙ ap Some (sym start);
        anchor = x;
        by = placed.0 ∙ sym start;
        at = placed.1;
        in_block = rw start inside;
        alone = λ m n. only m n (b.holds m b.round) refl;
        top = λ m r h. above m r h (b.holds m r) refl;
      }
    where
      below : Linked s (b ∷ c) × ((b ∷ c) ≼ (newer ++ (b ∷ c)))
      below = linked-below newer (b ∷ c) (subst (λ (d : Chain Content). Linked s d) e I.ordering.linked)

      x : Content
      x = below.0.0

      link : Link s b c x
      link = below.0.1

      seen : Anchor s b.round x
      seen = link.sees

      placed : (x.author ≡ seen.lead) × (x.round ≡ b.round)
      placed = I.storing.place seen.held

      start : start_of S b c ≡ seen.lead
      start = ap (λ (w : List Weight). unwrap_or (leader_of (weight_in w) b.round) 16) (sym (committee_below S below.1) ∙ ap (λ (d : Chain Content). committee_of S d b.round) (sym e)) ∙ ap (λ (o : Option ℕ). unwrap_or o 16) seen.leads

      inside : b.holds seen.lead b.round ≡ Some x
      inside = (link.content seen.lead b.round x).1 (record { by = placed.0; at = placed.1; reached = here; unused = λ h. absurd (omega (arith, in_low c below.0.3 x h, placed.1, link.spaced)) })

      only : (m : ℕ) → m ≢ start_of S b c → (o : Option Content) → b.holds m b.round ≡ o → o ≡ None
      only m n None h = refl
      only m n (Some p) h =
          let f = (link.content m b.round p).0 h in
          absurd (n (sym f.by ∙ ap (λ (z : Content). z.author) (reach_same f.reached (f.at ∙ sym placed.1)) ∙ placed.0 ∙ sym start))

      above : (m r : ℕ) → b.round < r → (o : Option Content) → b.holds m r ≡ o → o ≡ None
      above m r l None h = refl
      above m r l (Some p) h = let f = (link.content m r p).0 h in absurd (omega (arith, l, f.at, reach_low f.reached, placed.1))

module _ {S : Settings} {F : Implementation S} (X : Group S F) where
  -- so it is of every block of every correct member in a run
  pub run-starts : (l : Entries X) → Run X l → (i : ℕ) → X.correct i ≡ true
      → (newer : Chain Content) (b : Block Content) (c : Chain Content) → chain_after X l i ≡ newer ++ (b ∷ c) → StartsWithAnchor S (chain_after X l i) b c
  run-starts l r i c newer b below = starts S (run_invariant X l r i c) newer b below
