-- What a commit hangs on: its anchor, and each vote without which the others weigh not more than the bound; and what the claims of the list speak of (pivotal::theorems).
use Rattle.std.specs.Prelude.{◌≡◌, Bool, not, if◌then◌else◌, ◌&&◌, List, [], ◌∷◌, ◌++◌, ℕ, zero, suc, ◌-◌, ◌==◌, nat_lt, Some}
use Rattle.agreement.specs.Weights.{weigh, total}
use Rattle.agreement.specs.Anchors.{votes}
use Rattle.agreement.specs.Commits.{anchor_at}
use Rattle.terms.specs.Proposals.{Content}
use Rattle.terms.specs.declared.sheet.Settings.{Settings}
use Rattle.committee.specs.Committees.{bound_of}
use Rattle.rules.specs.Tests.{MemberView, committee_in}
use Rattle.critical.specs.Critical.{Place, critical_places}
use Rattle.engine.specs.Engine.{Engine}
use Rattle.engine.specs.Steps.{view_at}

-- of a view, and the anchor x that a commit there goes by
module _ (S : Settings) (s : MemberView S) (x : Content) where
  -- the committee of the round above it, by member
  abbrev pub voters : ℕ → ℕ
  voters = committee_in S s (suc x.round)

  -- the votes for x but a's weigh not more than the fault bound
  unfoldable pub unvoted_without : ℕ → Bool
  unvoted_without a =
      not (nat_lt (bound_of S.margin (total 16 voters))
      (weigh 16 voters (λ i. votes s x i && not (i == a))))

  -- the votes for x without which the others weigh not more than the fault bound, of authors below n, by rising author
  unfoldable pub pivotal_votes : ℕ → List Place
  pivotal_votes zero = []
  pivotal_votes (suc n) = pivotal_votes n ++ (if votes s x n && unvoted_without n then record {
    round = suc x.round;
    author = n;
  } ∷ [] else [])

  -- the anchor, then they
  abbrev pub pivots : List Place
  pivots = record { round = x.round; author = x.author } ∷ pivotal_votes 16

-- the anchor of the round before is held, and the critical places are these and no other
pub record HangsOnPivots (e : Engine) : Type 0 where
  pub anchor : Content
  pub is_anchor : anchor_at (view_at e.state.settings e) (e.state.round - 1) ≡ Some anchor
  pub exactly : critical_places e.state e.table
      ≡ pivots e.state.settings (view_at e.state.settings e) anchor
