-- The leaders of many rounds, by round.
use Rattle.std.specs.Prelude.{◌≡◌, List, ℕ, zero, suc, ◌+◌, ◌-◌, ◌≤◌, set}
use Rattle.agreement.specs.Rules.{Chain}
use Rattle.terms.specs.Proposals.{Content}
use Rattle.terms.specs.declared.sheet.Settings.{Settings}
use Rattle.committee.specs.Committees.{committee_of, leader_by}
use Rattle.committee.specs.declared.committees.Committee.{Committee}

-- the number of the leader of round r, 16 for none
unfoldable pub leader_at : Settings → Chain Content → ℕ → ℕ
leader_at S c r = leader_by (committee_of S c r) r

-- the values of g at the n rounds above m, written over l
unfoldable pub fill_to : (ℕ → ℕ) → ℕ → ℕ → List ℕ → List ℕ
fill_to g m zero l = l
fill_to g m (suc n) l = set (fill_to g m n l) (m + suc n) (g (m + suc n))

-- the rounds above m up to top, for which a list by round has room
pub record RoundSpan (m top : ℕ) : Type 0 where
  pub from : m ≤ top
  pub to : top ≤ 1024

-- l has the leaders of these rounds, written over l₀, and w is the committee of the round above top
pub record LeadersFilled (S : Settings) (c : Chain Content) (m top : ℕ) (l₀ l : List ℕ)
    (w : Committee) : Type 0 where
  pub leaders : l ≡ fill_to (leader_at S c) m (top - m) l₀
  pub committee : w.weights ≡ committee_of S c (top + 1)
  pub margin : w.margin ≡ S.margin
