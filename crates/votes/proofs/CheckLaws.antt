-- The checks of a commit, one by one, and what they let pass.
use Rattle.std.proofs.Common.{◌≡◌, refl, sym, ap, ◌∙◌, Bool, true, false, not, cond, List, [], ◌∷◌, ◌≢◌, ℕ, suc, ◌-◌, ◌%◌, ◌<◌, ◌≤◌, arith, eqb, ltb, get_or, leb-false, lt-ltb, le-ltb, Some, None}
use Rattle.base.proofs.Words.{eqb-false}
use Rattle.base.proofs.Bools.{neither}
use Rattle.base.proofs.UnionLaws.{in_none}
use Rattle.base.specs.Checks.{refusal}
use Rattle.base.proofs.CheckLaws.{refuses, passes, passes-all, cleared, first-refuses, first_passes, numbered}
use Rattle.base.specs.Sets.{contains}
use Rattle.base.proofs.SetLaws.{in_member}
use Rattle.agreement.specs.Rules.{Chain, last}
use Rattle.agreement.specs.Weights.{total}
use Rattle.agreement.specs.Commits.{anchor_at}
use Rattle.terms.specs.Proposals.{Content}
use Rattle.store.specs.Table.{held_set, content_at}
use Rattle.terms.specs.Ranges.{weight_in}
use Rattle.committee.specs.Chain.{chain_of}
use Rattle.committee.specs.Committees.{bound_of, leader_by}
use Rattle.chain_committees.specs.BlockChanges.{last_round}
use Rattle.chain_committees.specs.Fill.{leader_at, fill_to}
use Rattle.chain_committees.proofs.ChainLaws.{last-chain, last-from}
use Rattle.refusals.specs.declared.Refusal.{Refusal}
use Rattle.refusals.specs.Refusals.{number_of}
use Rattle.refusals.proofs.RefusalLaws.{some-number}
use Rattle.rules.specs.Calls as rules
use Rattle.state.specs.declared.State.{State}
use Rattle.state.specs.View.{view}
use Rattle.state.specs.Formed.{Formed}
use Rattle.votes.specs.Votes.{votes_for}
use Rattle.votes.specs.Checks.{time_checks, vote_checks, committee_on, leaders_for}
use Rattle.votes.specs.Ready.{AnchorLed, AnchorReady, LeadersWanted, VotesReady}
use Rattle.votes.proofs.AnchorLaws.{leader_on, anchor-on, unvoted-on, leaders-on, leaders-filled}
use Rattle.terms.specs.declared.sheet.Weight.{Weight}
use Rattle.committee.specs.declared.committees.Committee.{Committee}

module _ (s : State) (t : List ℕ) where
  abbrev r : ℕ
  r = s.round

  abbrev m : ℕ
  m = last_round t s.blocks

  abbrev chain : Chain Content
  chain = chain_of s.settings.ceiling t s.blocks

  -- the last block's round, as the table has it
  pub last_told : last chain ≡ m
  last_told = last-chain s.settings.ceiling t s.blocks

  -- the checks of a commit are those of time, and then those of the votes
  pub refused_in_time : (e : Refusal) → number_of e ≡ refusal (time_checks s t) → refusal (rules.checks s.settings s.own.0 (view s t) rules.commit) ≡ number_of e
  refused_in_time e h = first-refuses (time_checks s t) (vote_checks s t) (omega (arith, some-number e)) ∙ sym h

  pub refused_by_votes : refusal (time_checks s t) ≡ 0 → refusal (rules.checks s.settings s.own.0 (view s t) rules.commit) ≡ refusal (vote_checks s t)
  unfolding numbered
  refused_by_votes = first_passes (time_checks s t) (vote_checks s t) refl

  -- what those of time let pass
  pub record Timely : Type 0 where
    pub odd : r % 2 ≢ 0
    pub from : 1 < r
    pub above : m < r - 1
    pub few : s.blocks ≤ m

  pub timely : Formed s t → refusal (time_checks s t) ≡ 0 → Timely
  timely f e =
      let n = s.settings.ceiling in
      let p = cleared _ 19 _ (omega arith) e in
      let q = cleared _ 20 _ (omega arith) p.1 in
      let o = neither (eqb (r % 2) 0) (eqb r 1) p.0 in
      let x = eqb-false r 1 o.1 in
      let y = last-from n t s.blocks f.rounds s.blocks (omega arith) in
      record { odd = eqb-false (r % 2) 0 o.0; from = omega (arith, f.numbers.round_from); above = leb-false (r - 1) m (rw (last-chain n t s.blocks) at q.0); few = omega arith }

  -- ---- 21, 22

  module _ (f : Formed s t) (from : 1 < r) where
    abbrev a : ℕ
    a = leader_on s t (r - 1)

    abbrev w : List Weight
    w = committee_on s t r

    anchor : anchor_at (view s t) (r - 1) ≡ cond (contains (held_set t (r - 1)) a) (Some (content_at t a (r - 1))) None
    anchor = anchor-on s t (r - 1) (omega arith) (omega (arith, f.numbers.round_to))

    -- the leader in the list of leaders
    pub led_on : (l : List ℕ) → l ≡ leaders_for s t → m < r - 1 → get_or l (r - 1) 0 ≡ a
    led_on l e h = ap (λ (z : List ℕ). get_or z (r - 1) 0) e ∙ leaders-on s t (r - 1) h (omega arith) (omega (arith, f.numbers.round_to, f.settings.ceiling_to))

    pub anchor-none : contains (held_set t (r - 1)) a ≡ false → 21 ≡ refusal (vote_checks s t)
    anchor-none e = rw (anchor, e) (sym (refuses 21 _ refl))

    module _ (led : contains (held_set t (r - 1)) a ≡ true) where
      pub anchor-led : anchor_at (view s t) (r - 1) ≡ Some (content_at t a (r - 1))
      anchor-led = anchor ∙ rw led refl

      abbrev bound : ℕ
      bound = bound_of s.settings.margin (total 16 (weight_in w))

      weighing : refusal (vote_checks s t) ≡ refusal ((not (ltb bound (votes_for t w r a)), 22) ∷ [])
      weighing =
          let e : suc (r - 1) ≡ r = omega arith in
          rw (anchor-led, rw e at (unvoted-on s t a (r - 1) (omega (arith, f.numbers.round_to)))) refl

      pub votes-few : votes_for t w r a ≤ bound → 22 ≡ refusal (vote_checks s t)
      votes-few h = sym (weighing ∙ refuses 22 _ (rw (le-ltb bound (votes_for t w r a) h) refl))

      pub votes-enough : bound < votes_for t w r a → 0 ≡ refusal (vote_checks s t)
      votes-enough h = sym (weighing ∙ passes 22 _ (rw (lt-ltb bound (votes_for t w r a) h) refl) ∙ passes-all)

    -- what they let pass: the leader's certificate is held
    pub voted : refusal (vote_checks s t) ≡ 0 → contains (held_set t (r - 1)) a ≡ true
    voted e = go (contains (held_set t (r - 1)) a) refl
      where
        go : (b : Bool) → contains (held_set t (r - 1)) a ≡ b → b ≡ true
        go true h = refl
        go false h = absurd (omega (arith, anchor-none h))

-- nobody's certificate of the round before is held
pub nobody_held : (s : State) (t : List ℕ) → Formed s t → refusal (time_checks s t) ≡ 0 → held_set t (s.round - 1) ≡ 0 → 21 ≡ refusal (vote_checks s t)
nobody_held s t f e h = anchor-none s t f ((timely s t f e).from) (rw h (in_none (leader_on s t (s.round - 1))))

-- the leaders that were put, and the committee, are what the votes go by
pub anchor_ready : {s : State} {t l l₀ : List ℕ} {m : ℕ} {w : Committee} → LeadersWanted s t l₀ → l ≡ fill_to (leader_at s.settings (chain_of s.settings.ceiling t s.blocks)) m (s.round - 1 - m) l₀ → m ≡ last_round t s.blocks → w.weights ≡ committee_on s t s.round → w.margin ≡ s.settings.margin → AnchorReady s t l w
anchor_ready {s} {t} {l} p h e x k =
    let f = p.formed in
    let y = timely s t f p.in_time in
    let d = leaders-filled s t l _ (rw p.none at h) e in
    record { leaders = d; anchor = record { formed = f; from = y.from; leader = led_on s t f y.from l d y.above; committee = x; margin = k } }

-- and so have the starting weights, while they are the committees
pub starting_led : (s : State) (t : List ℕ) (a : ℕ) (w : Committee) → Formed s t → refusal (time_checks s t) ≡ 0 → ((q : ℕ) → q ≤ s.round → committee_on s t q ≡ s.settings.weights) → w.weights ≡ s.settings.weights → w.margin ≡ s.settings.margin → a ≡ leader_by w.weights (s.round - 1)
    → AnchorLed s t a w
unfolding leader_at
starting_led s t a w f e h x m l = record {
  formed = f;
  from = (timely s t f e).from;
  leader = rw (h (s.round - 1) (omega arith), ← x) l;
  committee = rw (h s.round (omega arith)) x;
  margin = m;
}

-- the checks of the votes, by the leader and the committee at hand
pub no_anchor : {s : State} {t : List ℕ} {a : ℕ} → Formed s t → 1 < s.round → a ≡ leader_on s t (s.round - 1) → contains (held_set t (s.round - 1)) a ≡ false → 21 ≡ refusal (vote_checks s t)
no_anchor {s} {t} f from e h = anchor-none s t f from (rw e at h)

module _ {s : State} {t : List ℕ} {a : ℕ} {w : Committee} (p : AnchorLed s t a w) where
  pub votes_short : contains (held_set t (s.round - 1)) a ≡ true → votes_for t w.weights s.round a ≤ bound_of w.margin (total 16 (weight_in w.weights)) → 22 ≡ refusal (vote_checks s t)
  votes_short h k = votes-few s t p.formed p.from (rw p.leader at h) (rw (p.leader, p.committee, p.margin) at k)

  pub votes_pass : contains (held_set t (s.round - 1)) a ≡ true → bound_of w.margin (total 16 (weight_in w.weights)) < votes_for t w.weights s.round a → 0 ≡ refusal (vote_checks s t)
  votes_pass h k = votes-enough s t p.formed p.from (rw p.leader at h) (rw (p.leader, p.committee, p.margin) at k)

  -- they can be weighed
  pub votes_ready : contains (held_set t (s.round - 1)) a ≡ true → VotesReady t w.weights s.round a
  votes_ready h = record { row = omega (arith, p.formed.long, p.formed.numbers.round_to); member = in_member _ _ h; bounded = w.bounded }
