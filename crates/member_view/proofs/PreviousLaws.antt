-- Check 11 by the set of those held in the round before.
use Rattle.std.proofs.Common.{◌≡◌, sym, ◌∙◌, Bool, not, List, ◌≢◌, ℕ, ◌-◌, ◌<◌, ◌≤◌, arith}
use Rattle.base.specs.Sets.{is_subset}
use Rattle.terms.specs.declared.Proposal.{Proposal}
use Rattle.terms.specs.Proposals.{content_of}
use Rattle.store.specs.Table.{held_set}
use Rattle.rules.specs.Tests.{above, missing}
use Rattle.rules.proofs.TestLaws.{above-later}
use Rattle.state.specs.declared.State.{State}
use Rattle.state.specs.View.{view}
use Rattle.state.proofs.ViewLaws.{missing-held}

pub lacks-by : (s : State) (t : List ℕ) (p : Proposal) {h : ℕ} {b : Bool} → p.body.previous < 65536 → 0 < p.round → p.round ≤ s.settings.ceiling → p.round ≢ 1
    → h ≡ held_set t (p.round - 1) → b ≡ is_subset p.body.previous h → not b ≡ above p.round (missing s.settings (view s t) (content_of p))
lacks-by s t p small from to n e i =
    let later : 1 < p.round = positive p.round from n in
    rw (i, e) (sym (above-later p.round (missing s.settings (view s t) (content_of p)) n ∙ missing-held s t (content_of p) small later to))
  where
    positive : (r : ℕ) → 0 < r → r ≢ 1 → 1 < r
    positive r f n = omega arith
