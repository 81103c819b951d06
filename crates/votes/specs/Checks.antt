-- The checks of a commit in their order, and the leaders and committees that they go by.
use Rattle.std.specs.Prelude.{◌||◌, List, [], ◌∷◌, ℕ, ◌-◌, ◌%◌, replicate, ◌==◌, nat_le}
use Rattle.base.specs.Checks.{Checks}
use Rattle.agreement.specs.Rules.{last}
use Rattle.agreement.specs.Commits.{anchor_at}
use Rattle.committee.specs.Chain.{chain_of}
use Rattle.committee.specs.Committees.{committee_of}
use Rattle.chain_committees.specs.BlockChanges.{last_round}
use Rattle.chain_committees.specs.Fill.{leader_at, fill_to}
use Rattle.rules.specs.Tests.{unknown}
use Rattle.rules.specs.Calls as rules
use Rattle.state.specs.declared.State.{State}
use Rattle.state.specs.View.{view}
use Rattle.terms.specs.declared.sheet.Weight.{Weight}

module _ (s : State) (t : List ℕ) where
  -- the checks 19, 20, 8, and then 21, 22
  abbrev pub time_checks : Checks
  time_checks = (s.round % 2 == 0 || s.round == 1, 19)
      ∷ (nat_le (s.round - 1) (last (view s t).chain), 20)
      ∷ (unknown s.settings (view s t) s.round, 8) ∷ []

  abbrev pub vote_checks : Checks
  vote_checks = rules.voting s.settings (view s t) (anchor_at (view s t) (s.round - 1))

  -- the leaders of the rounds above the last block's, below the present one, by round, 16 for none
  unfoldable pub leaders_for : List ℕ
  leaders_for =
      fill_to (leader_at s.settings (chain_of s.settings.ceiling t s.blocks))
      (last_round t s.blocks) (s.round - 1 - last_round t s.blocks) (replicate 1025 16)

  -- the committee of round q
  abbrev pub committee_on : ℕ → List Weight
  committee_on q = committee_of s.settings (chain_of s.settings.ceiling t s.blocks) q
