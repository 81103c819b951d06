-- What is asked where votes are weighed.
use Rattle.std.specs.Prelude.{◌≡◌, List, ℕ, ◌-◌, ◌<◌, get_or, replicate}
use Rattle.base.specs.Checks.{refusal}
use Rattle.store.specs.Table.{Row}
use Rattle.committee.specs.Totals.{TotalBounded}
use Rattle.committee.specs.Chain.{chain_of}
use Rattle.committee.specs.declared.committees.Committee.{Committee}
use Rattle.chain_committees.specs.Fill.{leader_at}
use Rattle.state.specs.declared.State.{State}
use Rattle.state.specs.Formed.{Formed}
use Rattle.votes.specs.Checks.{time_checks, committee_on, leaders_for}
use Rattle.terms.specs.declared.sheet.Weight.{Weight}

-- round r is there, a is a member, and the weights of w can be added
pub record VotesReady (t : List ℕ) (w : List Weight) (r a : ℕ) : Type 0 where
  pub row : Row t r
  pub member : a < 16
  pub bounded : TotalBounded w

-- the round is above 1, a is the leader of the round before it, 16 for none, and w is the committee of the round
pub record AnchorLed (s : State) (t : List ℕ) (a : ℕ) (w : Committee) : Type 0 where
  pub formed : Formed s t
  pub from : 1 < s.round
  pub leader : a
      ≡ leader_at s.settings (chain_of s.settings.ceiling t s.blocks) (s.round - 1)
  pub committee : w.weights ≡ committee_on s t s.round
  pub margin : w.margin ≡ s.settings.margin

-- the round is above 1, l has the leaders by round, and w is the committee of the round
pub record AnchorReady (s : State) (t l : List ℕ) (w : Committee) : Type 0 where
  pub leaders : l ≡ leaders_for s t
  pub anchor : AnchorLed s t (get_or l (s.round - 1) 0) w

-- the state passes the checks of time, and l has no leaders yet
pub record LeadersWanted (s : State) (t l : List ℕ) : Type 0 where
  pub formed : Formed s t
  pub in_time : refusal (time_checks s t) ≡ 0
  pub none : l ≡ replicate 1025 16
