-- The checks of a commit where a certificate is absent: what is left of them, and the table when it is held again.
use Rattle.std.proofs.Common.{◌≡◌, refl, sym, ◌∙◌, true, false, not, cond, List, ◌⊎◌, inl, inr, ◌≢◌, ℕ, ◌-◌, ◌<◌, ◌≤◌, arith, eqb, leb, eq-eqb, ne_eqb, le-leb}
use Rattle.base.proofs.Words.{and-false, dec_lt, ℕ_discrete, lt-leb}
use Rattle.base.specs.Checks.{refusal}
use Rattle.base.specs.Sets.{contains, remove}
use Rattle.base.proofs.CheckLaws.{first_passes, numbered}
use Rattle.base.proofs.SetLaws.{in_member}
use Rattle.store.specs.Table.{Row, Within, held_set, held_at}
use Rattle.store.specs.Writes.{set_held, clear_held}
use Rattle.store.proofs.WriteLaws.{same_place}
use Rattle.store.proofs.HeldLaws.{held-again}
use Rattle.state.specs.declared.State.{State}
use Rattle.state.specs.Formed.{Formed}
use Rattle.state.proofs.PreservedLaws.{absent-kept}
use Rattle.agreement.specs.Weights.{total}
use Rattle.terms.specs.Ranges.{weight_in}
use Rattle.committee.specs.Committees.{bound_of}
use Rattle.committee.specs.declared.committees.Committee.{Committee}
use Rattle.votes.specs.Votes.{votes_at, votes_for}
use Rattle.votes.specs.Checks.{time_checks, vote_checks, committee_on}
use Rattle.votes.specs.Ready.{AnchorLed, VotesReady}
use Rattle.votes.proofs.AnchorLaws.{leader_on}
use Rattle.votes.proofs.CheckLaws.{Timely, timely, voted, votes-few}
use Rattle.votes.proofs.AbsenceLaws.{time-same, weight_without, anchor-absent, few-left, enough-left, votes-left}
use Rattle.critical.specs.Critical.{refusal_without, is_critical}
use Rattle.critical.specs.Answers.{InTime, Passes, MayLack, InView, Free}

module _ {s : State} {t : List ℕ} {a q : ℕ} (m : MayLack s t a q) where
  row : Row t q
  row = omega (arith, m.timely.formed.long, m.to)

  lacking_formed : Formed s (clear_held t a q)
  lacking_formed = absent-kept s t m.timely.formed a q m.member m.from m.to

  lacking_timely : refusal (time_checks s (clear_held t a q)) ≡ 0
  lacking_timely = time-same s t a q row m.timely.in_time

  pub lacking : InTime s (clear_held t a q)
  lacking = record { formed = lacking_formed; in_time = lacking_timely }

  -- the votes decide
  pub without_votes : refusal_without s t a q ≡ refusal (vote_checks s (clear_held t a q))
  unfolding refusal_without numbered
  without_votes = first_passes (time_checks s (clear_held t a q)) (vote_checks s (clear_held t a q)) refl lacking_timely

  pub lacking_again : set_held (clear_held t a q) q (held_set t q) ≡ t
  unfolding clear_held
  lacking_again = held-again t q (remove (held_set t q) a) row

-- ---- a certificate in no block

module _ {s : State} {t : List ℕ} (p : Passes s t) where
  abbrev r : ℕ
  r = s.round

  abbrev lead : ℕ
  lead = leader_on s t (r - 1)

  abbrev weight : ℕ → ℕ
  weight = weight_in (committee_on s t r)

  -- the bound, the votes, and those that are left without the certificate of a and q
  abbrev bound : ℕ
  bound = bound_of s.settings.margin (total 16 weight)

  abbrev cast : ℕ
  cast = votes_for t (committee_on s t r) r lead

  abbrev left : ℕ → ℕ → ℕ
  left a q = votes_for (clear_held t a q) (committee_on s t r) r lead

  formed : Formed s t
  formed = p.timely.formed

  time : Timely s t
  time = timely s t (formed) p.timely.in_time

  led : contains (held_set t (r - 1)) lead ≡ true
  led = voted s t (formed) time.from p.voted

  -- the votes weigh more than the bound
  pub enough : bound < cast
  enough = go (dec_lt bound cast)
    where
      go : Dec (bound < cast) → bound < cast
      go (yes h) = h
      go (no n) = absurd (omega (arith, p.voted, votes-few s t (formed) time.from led (omega arith)))

  pub leader-low : lead < 16
  leader-low = in_member (held_set t (r - 1)) lead led

  -- the votes can be weighed
  pub votes_ready : {a : ℕ} {w : Committee} → AnchorLed s t a w → VotesReady t w.weights r a
  votes_ready {w = w} k = record { row = omega (arith, formed.long, formed.numbers.round_to); member = omega (arith, leader-low, k.leader); bounded = w.bounded }

  -- a vote is one of them
  pub vote_le : {a v : ℕ} → a < 16 → v ≡ cond (votes_at t r lead a) (weight a) 0 → v ≤ cast
  vote_le {a} h e = omega (arith, weight_without t a r (omega (arith, formed.long, formed.numbers.round_to)) (committee_on s t r) lead h, e)

  module _ {a q : ℕ} (i : InView s a q) where
    pub may : MayLack s t a q
    may = record { timely = p.timely; member = i.member; from = low i.near; to = high i.near }
      where
        low : (q ≡ r) ⊎ (q ≡ r - 1) → 0 < q
        low (inl e) = omega (arith, time.from)
        low (inr e) = omega (arith, time.from)

        high : (q ≡ r) ⊎ (q ≡ r - 1) → q ≤ s.settings.ceiling
        high (inl e) = omega (arith, formed.numbers.round_to)
        high (inr e) = omega (arith, formed.numbers.round_to)

    pub place : Within t a q
    place = record { member = i.member; row = omega (arith, formed.long, may.to) }

  module _ {a q : ℕ} (i : InView s a q) (f : Free t a q) where
    critical-by : (n : ℕ) → refusal (vote_checks s (clear_held t a q)) ≡ n → is_critical s t a q ≡ not (eqb n 0)
    unfolding is_critical
    critical-by n e = rw (f.held, without_votes (may i), e) refl

    -- as the anchor
    anchor-then : a ≡ lead → q ≡ r - 1 → is_critical s t a q ≡ true
    anchor-then e k = critical-by 21 (anchor-absent s t formed time.from led a i.member q (may i).from (may i).to f.unmarked e k)

    -- as another, by the votes that are left, which in the round before are all
    module _ (other : same_place lead (r - 1) a q ≡ false) where
      few-then : left a q ≤ bound → is_critical s t a q ≡ true
      few-then h = critical-by 22 (few-left s t formed time.from led a i.member q (may i).from (may i).to f.unmarked other h)

      enough-then : bound < left a q → is_critical s t a q ≡ false
      enough-then h = critical-by 0 (enough-left s t formed time.from led a i.member q (may i).from (may i).to f.unmarked other h)

      all_left : q ≢ r → left a q ≡ cast
      all_left n = votes-left s t formed time.from led a i.member q (may i).from (may i).to f.unmarked other n

    -- in the round before it is critical where it is the anchor
    pub before-critical : q ≢ r → is_critical s t a q ≡ eqb a lead
    before-critical n = go (ℕ_discrete a lead)
      where
        below : (q ≡ r) ⊎ (q ≡ r - 1) → q ≡ r - 1
        below (inl e) = absurd (n e)
        below (inr e) = e

        go : Dec (a ≡ lead) → is_critical s t a q ≡ eqb a lead
        go (yes e) = anchor-then e (below i.near) ∙ sym (eq-eqb a lead e)
        go (no k) =
            let other : same_place lead (r - 1) a q ≡ false = rw (ne_eqb lead a (λ e. k (sym e))) refl in
            enough-then other (rw (all_left other n) enough) ∙ sym (ne_eqb a lead k)

    -- in the present round, where the votes without it weigh not more than the bound
    pub now-critical : q ≡ r → (v : ℕ) → v ≡ cond (votes_at t r lead a) (weight a) 0 → is_critical s t a q ≡ leb (cast - v) bound
    now-critical e v h = go (dec_lt bound (cast - v))
      where
        other : same_place lead (r - 1) a q ≡ false
        other = rw (ne_eqb (r - 1) q (λ k. omega (arith, time.from)), and-false (eqb lead a)) refl

        rest : left a q ≡ cast - v
        rest = rw e (omega (arith, weight_without t a r (omega (arith, formed.long, formed.numbers.round_to)) (committee_on s t r) lead i.member, h))

        go : Dec (bound < cast - v) → is_critical s t a q ≡ leb (cast - v) bound
        go (yes k) = enough-then other (rw rest k) ∙ sym (lt-leb (cast - v) bound k)
        go (no k) = few-then other (rw rest (omega arith)) ∙ sym (le-leb (cast - v) bound (omega arith))

-- ---- what is not held, and what is held

module _ (s : State) (t : List ℕ) (a q : ℕ) where
  pub absent_critical : held_at t a q ≡ false → is_critical s t a q ≡ false
  unfolding is_critical
  absent_critical e = rw e refl

  pub held_critical : held_at t a q ≡ true → is_critical s t a q ≡ not (eqb (refusal_without s t a q) 0)
  unfolding is_critical
  held_critical e = rw e refl
