-- The numbers that refuse the reads, 0 for none.
use Rattle.std.specs.Prelude.{List, ℕ}
use Rattle.base.specs.Checks.{Checks, refusal}
use Rattle.rules.specs.Reads as rules
use Rattle.state.specs.declared.State.{State}
use Rattle.state.specs.View.{view}
use Rattle.state.specs.Refusals.{guarded}

module _ (s : State) (t : List ℕ) where
  -- of a committee: 1, 5, 8
  unfoldable pub committee_refusal : ℕ → ℕ
  committee_refusal r = refusal (guarded s t (rules.reading_committee s.settings (view s t) r))

  -- of a share: 1, 4, 5, 8, 9
  unfoldable pub share_refusal : ℕ → ℕ → ℕ
  share_refusal m r = refusal (guarded s t (rules.reading_share s.settings (view s t) m r))

  -- of a bond's effect: 1, 4, 5, 6, 8, 30
  abbrev pub effect_checks : ℕ → ℕ → ℕ → Checks
  effect_checks m r a = guarded s t (rules.reading_effect s.settings (view s t) m r a)

  unfoldable pub effect_refusal : ℕ → ℕ → ℕ → ℕ
  effect_refusal m r a = refusal (effect_checks m r a)

  -- of a certificate: 1, 4, 5, 23
  unfoldable pub certificate_refusal : ℕ → ℕ → ℕ
  certificate_refusal m r =
      refusal (guarded s t (rules.reading_certificate s.settings (view s t) m r))

  -- of a block: 1, 23
  unfoldable pub block_refusal : ℕ → ℕ
  block_refusal k = refusal (guarded s t (rules.reading_block s.settings (view s t) k))
