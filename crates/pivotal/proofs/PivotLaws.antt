-- Which places are critical in an engine that calls lead to, round by round; and the claim.
use Rattle.std.proofs.Common.{◌≡◌, refl, sym, ap, ap₂, ◌∙◌, Bool, true, false, not, cond, ◌&&◌, true≢false, List, [], ◌∷◌, ◌++◌, inl, inr, ℕ, zero, suc, ◌-◌, ◌<◌, ◌≤◌, arith, eqb, leb, ltb, eq-eqb, ne_eqb, le-leb, lt-ltb, le-ltb}
use Rattle.base.proofs.Words.{dec_lt, ℕ_discrete, lt-leb}
use Rattle.base.proofs.SumLaws.{sum_same, sum_without}
use Rattle.agreement.specs.Weights.{weigh, total}
use Rattle.agreement.specs.Anchors.{votes}
use Rattle.terms.specs.Proposals.{Content}
use Rattle.store.specs.Table.{held_at, content_at}
use Rattle.store.proofs.TableLaws.{held_in, content-author, content-round}
use Rattle.terms.specs.declared.sheet.Weight.{Weight}
use Rattle.terms.specs.Ranges.{weight_in}
use Rattle.committee.specs.Chain.{chain_of}
use Rattle.committee.specs.Committees.{bound_of}
use Rattle.rules.specs.Tests.{committee_in}
use Rattle.state.specs.declared.State.{State}
use Rattle.state.specs.View.{view}
use Rattle.state.proofs.ViewLaws.{vote-dag}
use Rattle.votes.specs.Votes.{votes_at, votes_for}
use Rattle.votes.specs.Checks.{committee_on}
use Rattle.votes.proofs.AnchorLaws.{leader_on}
use Rattle.votes.proofs.CheckLaws.{anchor-led}
use Rattle.critical.specs.Critical.{Place, is_critical, critical_at, critical_in, critical_places}
use Rattle.critical.specs.Answers.{Passes, Free}
use Rattle.critical.proofs.LackLaws.{enough, leader-low, before-critical, now-critical, absent_critical}
use Rattle.commit.proofs.CheckLaws.{Accepted, accepted}
use Rattle.pivotal.specs.Pivotal.{unvoted_without, pivotal_votes, pivots, HangsOnPivots}
use Rattle.pivotal.proofs.BelowLaws.{Below, reached-below}
use Rattle.pivotal.proofs.FreeLaws.{free-above}
use Rattle.engine.specs.Engine.{Engine, refusal_for}
use Rattle.engine.specs.Reached.{Reached}
use Rattle.engine.specs.Calls.{commit}

-- not more than: by the other test
leb_not : (m n : ℕ) → leb m n ≡ not (ltb n m)
leb_not m n = go (dec_lt n m)
  where
    go : Dec (n < m) → leb m n ≡ not (ltb n m)
    go (yes h) = rw (lt-leb m n h, lt-ltb n m h) refl
    go (no h) = rw (le-leb m n (omega arith), le-ltb n m (omega arith)) refl

-- a set without a, which is in it, weighs so much less
weigh_without : (w : ℕ → ℕ) (f : ℕ → Bool) (a : ℕ) → a < 16 → f a ≡ true → weigh 16 w (λ i. f i && not (eqb i a)) ≡ weigh 16 w f - w a
weigh_without w f a h e =
    let p = sum_without (λ i. cond (f i) (w i) 0) (λ i. cond (f i && not (eqb i a)) (w i) 0) 16 a h (rw (e, eq-eqb a a refl) refl) (λ i n. rw (ne_eqb i a n) (kept (f i) (w i))) in
    let q : cond (f a) (w a) 0 ≡ w a = rw e refl in
    omega (arith, p, q)
  where
    kept : (b : Bool) (k : ℕ) → cond (b && true) k 0 ≡ cond b k 0
    kept true k = refl
    kept false k = refl

module _ (s : State) (t : List ℕ) (y : Accepted s t) (b : Below (chain_of s.settings.ceiling t s.blocks)) where
  abbrev r : ℕ
  r = s.round

  abbrev lead : ℕ
  lead = leader_on s t (r - 1)

  abbrev w : List Weight
  w = committee_on s t r

  abbrev x : Content
  x = content_at t lead (r - 1)

  passes : Passes s t
  passes = record { timely = record { formed = y.formed; in_time = y.in_time }; voted = y.voted }

  above : suc (r - 1) ≡ r
  above = omega (arith, y.timely.from)

  up : suc x.round ≡ r
  up = ap suc (content-round t lead (r - 1)) ∙ above

  free : (a q : ℕ) → held_at t a q ≡ true → r - 1 ≤ q → q ≤ r → Free t a q
  free a q h l m = record { held = h; unmarked = free-above s t y.formed b a q h (omega (arith, y.timely.above)) (omega (arith, y.formed.numbers.round_to)) }

  -- ---- the round before: the anchor

  pub before : (a : ℕ) → a < 16 → is_critical s t a (r - 1) ≡ eqb a lead
  before a m = go (held_at t a (r - 1)) refl
    where
      go : (h : Bool) → held_at t a (r - 1) ≡ h → is_critical s t a (r - 1) ≡ eqb a lead
      go true h = before-critical passes (record { member = m; near = inr refl }) (free a (r - 1) h (omega arith) (omega arith)) (λ e. omega (arith, y.timely.from))
      go false h = absent_critical s t a (r - 1) h ∙ sym (ne_eqb a lead (λ e. true≢false (sym y.led ∙ sym (held_in t lead (r - 1)) ∙ rw e at h)))

  abbrev anchor : Place
  anchor = record { round = r - 1; author = lead }

  row_before : (n : ℕ) → n ≤ 16 → critical_in s t (r - 1) n ≡ cond (ltb lead n) (anchor ∷ []) []
  unfolding critical_in critical_at
  row_before zero l = rw (le-ltb lead 0 (omega arith)) refl
  row_before (suc n) l = ap (λ (k : List Place). k ++ critical_at s t n (r - 1)) (row_before n (omega arith)) ∙ rw (before n (omega arith)) (go (dec_lt lead n) (ℕ_discrete n lead))
    where
      go : Dec (lead < n) → Dec (n ≡ lead)
          → (cond (ltb lead n) (anchor ∷ []) [] ++ cond (eqb n lead) (record { round = r - 1; author = n } ∷ []) []) ≡ cond (ltb lead (suc n)) (anchor ∷ []) []
      go (yes h) (yes e) = absurd (omega arith)
      go (yes h) (no e) = rw (lt-ltb lead n h, ne_eqb n lead e, lt-ltb lead (suc n) (omega arith)) refl
      go (no h) (yes e) = rw (le-ltb lead n (omega arith), eq-eqb n lead e, lt-ltb lead (suc n) (omega arith), e) refl
      go (no h) (no e) = rw (le-ltb lead n (omega arith), ne_eqb n lead e, le-ltb lead (suc n) (omega arith)) refl

  -- ---- the present round: votes

  votes-at : (a : ℕ) → votes (view s t) x a ≡ votes_at t r lead a
  unfolding votes_at
  votes-at a = rw (content-author t lead (r - 1), content-round t lead (r - 1), above) (vote-dag s.settings.ceiling t a r (omega (arith, y.timely.from)) y.formed.numbers.round_to s.settings lead)

  votes-absent : (a : ℕ) → held_at t a r ≡ false → votes_at t r lead a ≡ false
  unfolding votes_at
  votes-absent a h = rw h refl

  -- the weight of the votes but a's, where a votes
  others : (a : ℕ) → a < 16 → votes_at t r lead a ≡ true → weigh 16 (weight_in w) (λ i. votes (view s t) x i && not (eqb i a)) ≡ votes_for t w r lead - weight_in w a
  unfolding votes_for
  others a m e =
      sum_same _ _ 16 (λ i h. ap (λ (b : Bool). cond (b && not (eqb i a)) (weight_in w i) 0) (votes-at i))
      ∙ weigh_without (weight_in w) (votes_at t r lead) a m e

  unvoted_so : (a : ℕ) → a < 16 → votes_at t r lead a ≡ true
      → unvoted_without s.settings (view s t) x a ≡ leb (votes_for t w r lead - weight_in w a) (bound_of s.settings.margin (total 16 (weight_in w)))
  unfolding unvoted_without
  unvoted_so a m e =
      let voters : ℕ → ℕ → ℕ = λ q. committee_in s.settings (view s t) q in
      ap₂ (λ (k l : ℕ). not (ltb k l)) (ap (λ (q : ℕ). bound_of s.settings.margin (total 16 (voters q))) up)
      (ap (λ (q : ℕ). weigh 16 (voters q) (λ i. votes (view s t) x i && not (eqb i a))) up ∙ others a m e)
      ∙ sym (leb_not (votes_for t w r lead - weight_in w a) (bound_of s.settings.margin (total 16 (weight_in w))))

  pub now : (a : ℕ) → a < 16 → is_critical s t a r ≡ (votes (view s t) x a && unvoted_without s.settings (view s t) x a)
  now a m = rw (votes-at a) (go (held_at t a r) refl (votes_at t r lead a) refl)
    where
      go : (h : Bool) → held_at t a r ≡ h → (v : Bool) → votes_at t r lead a ≡ v → is_critical s t a r ≡ (v && unvoted_without s.settings (view s t) x a)
      go true h true e =
          now-critical passes (record { member = m; near = inl refl }) (free a r h (omega arith) (omega arith)) refl (weight_in w a) (rw e refl) ∙ sym (unvoted_so a m e)
      go true h false e =
          now-critical passes (record { member = m; near = inl refl }) (free a r h (omega arith) (omega arith)) refl 0 (rw e refl)
          ∙ lt-leb (votes_for t w r lead - 0) (bound_of s.settings.margin (total 16 (weight_in w))) (omega (arith, enough passes))
      go false h true e = absurd (true≢false (sym e ∙ votes-absent a h))
      go false h false e = absent_critical s t a r h

  row_now : (n : ℕ) → n ≤ 16 → critical_in s t r n ≡ pivotal_votes s.settings (view s t) x n
  unfolding critical_in critical_at pivotal_votes
  row_now zero l = refl
  row_now (suc n) l = ap₂ (λ (k m : List Place). k ++ m) (row_now n (omega arith)) (rw (now n (omega arith), content-round t lead (r - 1), above) refl)

  -- ---- both

  pub hangs : critical_places s t ≡ pivots s.settings (view s t) x
  unfolding critical_places
  hangs = rw (row_before 16 (omega arith), row_now 16 (omega arith), lt-ltb lead 16 (leader-low passes), content-round t lead (r - 1), content-author t lead (r - 1)) refl

-- of every engine that calls lead to, where a commit would be accepted
pub commits_hang_on_pivots : (e : Engine) → Reached e → refusal_for e commit ≡ 0 → HangsOnPivots e
commits_hang_on_pivots e h a =
    let y = accepted e.state e.table a in
    record { anchor = _; is_anchor = anchor-led _ _ y.formed y.timely.from y.led; exactly = hangs e.state e.table y (reached-below h) }
