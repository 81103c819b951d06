-- The form of a proposal: the checks that endorse and accept share, and what passes them.
use Rattle.std.specs.Prelude.{[], ◌∷◌, ◌<◌, ◌≤◌, nat_lt}
use Rattle.base.specs.Checks.{Checks}
use Rattle.terms.specs.Proposals.{Content, bad_transactions, bad_previous_set}
use Rattle.terms.specs.declared.sheet.Settings.{Settings}
use Rattle.rules.specs.Tests.{bad_round}
use Rattle.terms.specs.declared.Proposal.{Proposal}
use Rattle.state.specs.declared.State.{State}
use Rattle.state.specs.Formed.{BodyFits}

module _ (S : Settings) where
  -- 4, 5, 6, 7
  abbrev pub form_checks : Content → Checks
  form_checks p = (nat_lt 15 p.author, 4) ∷ (bad_round S p.round, 5)
      ∷ (bad_transactions S.allowance p.transactions, 6) ∷ (bad_previous_set p.round p.previous, 7)
      ∷ []

-- author, round and body of a proposal that passes checks 4, 5, 6, 7
pub record FormFits (s : State) (p : Proposal) : Type 0 where
  pub author : p.author.0 < 16
  pub from : 0 < p.round
  pub to : p.round ≤ s.settings.ceiling
  pub body : BodyFits s.settings.allowance p.round p.body
