-- What the claims of every read of a bond's effect that is accepted speak of (reads::theorems): the total weight before it, and how far it moves a share.
use Rattle.std.specs.Prelude.{List, ℕ, get_or}
use Rattle.agreement.specs.Weights.{total}
use Rattle.committee.specs.Shares.{apart}
use Rattle.committee.specs.declared.effects.Effect.{Effect}
use Rattle.rules.specs.Tests.{committee_in}
use Rattle.state.specs.declared.State.{State}
use Rattle.state.specs.View.{view}

-- the total weight of the committee of round r
abbrev pub total_at : State → List ℕ → ℕ → ℕ
total_at s t r = total 16 (committee_in s.settings (view s t) r)

-- how far the share of member i moves
abbrev pub moved_at : Effect → ℕ → ℕ
moved_at x i = apart (get_or x.before i 0) (get_or x.after i 0)
