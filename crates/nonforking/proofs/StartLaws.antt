-- The start: each correct member's engine is good and shows round 1 and nothing else. So the members are a group of the rules.
use Rattle.std.proofs.Common.{◌≡◌, ap, subst, true, [], ℕ, ◌<◌, arith}
use Rattle.agreement.specs.Entries.{states}
use Rattle.agreement.specs.Runs.{Initial}
use Rattle.terms.specs.declared.sheet.Settings.{Settings}
use Rattle.terms.specs.Ranges.{SettingsFit}
use Rattle.committee.proofs.CommitteeLaws.{margin_fits}
use Rattle.rules.specs.Tests.{MemberView}
use Rattle.rules.specs.Calls.{fresh_view}
use Rattle.rules.proofs.Runs.{Group}
use Rattle.state.proofs.FormedLaws.{formed}
use Rattle.engine.specs.Calls.{opens}
use Rattle.engine.specs.Engine.{Engine, after}
use Rattle.engine.specs.Steps.{view_at, FreshlyOpened}
use Rattle.engine.specs.Reached.{Good}
use Rattle.engine.proofs.ReachedLaws.{opened-fresh, fresh-good}
use Rattle.nonforking.specs.Statement.{Members, engine_after, engine_behaviour}
use Rattle.nonforking.proofs.Implemented.{implementation}

module _ (X : Members engine_behaviour) where
  open X use {correct, before, sheet, settings}

  -- what the accepted opens leave
  abbrev pub starts : ℕ → Engine
  starts k = after (before k) (opens (record { 0 = k }) (sheet k))

  module _ (k : ℕ) (c : correct k ≡ true) where
    begun : FreshlyOpened (record { 0 = k }) (sheet k) (before k) (starts k)
    begun = opened-fresh (before k) (record { 0 = k }) (sheet k) (X.accepted k c)

    pub start-good : Good settings k (starts k)
    start-good = subst (λ (S : Settings). Good S k (starts k)) (X.equal k c) (fresh-good begun)

    pub start-view : view_at settings (starts k) ≡ fresh_view settings
    start-view = subst (λ (S : Settings). view_at S (starts k) ≡ fresh_view S) (X.equal k c) begun.shows

    pub start_initial : Initial (view_at settings (starts k))
    start_initial =
        record {
          without_proposal = ap (λ (s : MemberView settings). s.proposal) start-view;
          no_certificate = λ a r. ap (λ (s : MemberView settings). s.dag a r) start-view;
          no_block = ap (λ (s : MemberView settings). s.chain) start-view;
        }

    pub correct-below : k < 16
    correct-below = let g = start-good in omega (arith, g.own, (formed (starts k).state (starts k).table g.formed).numbers.own)

    pub start_fits : SettingsFit settings
    start_fits = let g = start-good in subst SettingsFit g.settings (formed (starts k).state (starts k).table g.formed).settings

  abbrev pub group : Group settings (implementation settings)
  group = record { correct = correct; below = correct-below; fits = λ k c. margin_fits (start_fits k c); start = starts; good = start-good; fresh = start_initial }

-- and as the claim has them, before the first entry
pub start_fresh : (X : Members engine_behaviour) (k : ℕ) → X.correct k ≡ true → view_at X.settings (engine_after X [] k) ≡ fresh_view X.settings
unfolding states
start_fresh X k c = start-view X k c
