-- What the parts of a list of critical certificates go by.
use Rattle.std.specs.Prelude.{◌≡◌, true, ◌⊎◌, List, ℕ, ◌-◌, ◌<◌, ◌≤◌}
use Rattle.base.specs.Checks.{refusal}
use Rattle.store.specs.Table.{held_at, mark_at}
use Rattle.agreement.specs.Weights.{total}
use Rattle.terms.specs.Ranges.{weight_in}
use Rattle.committee.specs.Committees.{bound_of}
use Rattle.state.specs.declared.State.{State}
use Rattle.state.specs.Formed.{Formed}
use Rattle.refusals.specs.Refusals.{refusal_in}
use Rattle.votes.specs.Votes.{votes_for}
use Rattle.votes.specs.Checks.{time_checks, vote_checks}
use Rattle.votes.specs.Ready.{AnchorLed}
use Rattle.critical.specs.declared.Polled.{Polled}
use Rattle.critical.specs.declared.Weighed.{Weighed}

module _ (s : State) (t : List ℕ) where
  -- the checks of time let the state pass
  pub record InTime : Type 0 where
    pub formed : Formed s t
    pub in_time : refusal (time_checks s t) ≡ 0

  -- and so do those of the votes
  pub record Passes : Type 0 where
    pub timely : InTime
    pub voted : refusal (vote_checks s t) ≡ 0

  -- the checks of time let the state pass, and the certificate of author a and round q has a place
  pub record MayLack (a q : ℕ) : Type 0 where
    pub timely : InTime
    pub member : a < 16
    pub from : 0 < q
    pub to : q ≤ s.settings.ceiling

  -- p has what the votes answer, and what they go by
  pub record Polls (p : Polled) : Type 0 where
    pub its_refusal : refusal_in p.answer ≡ refusal (vote_checks s t)
    pub anchor : AnchorLed s t p.leader.0 p.committee

  -- the state would commit, and x has what the votes go by, the bound, and their weight
  pub record Weighs (x : Weighed) : Type 0 where
    pub passes : Passes
    pub anchor : AnchorLed s t x.leader.0 x.committee
    pub its_bound : x.bound.0 ≡ bound_of x.committee.margin (total 16 (weight_in x.committee.weights))
    pub its_votes : x.votes.0 ≡ votes_for t x.committee.weights s.round x.leader.0

-- q is the present round or the one before
abbrev pub Near : State → ℕ → Type 0
Near s q = (q ≡ s.round) ⊎ (q ≡ s.round - 1)

-- so it is, and a is a member
pub record InView (s : State) (a q : ℕ) : Type 0 where
  pub member : a < 16
  pub near : Near s q

-- the certificate of author a and round q is held, and in no block
pub record Free (t : List ℕ) (a q : ℕ) : Type 0 where
  pub held : held_at t a q ≡ true
  pub unmarked : mark_at t a q ≡ 0
