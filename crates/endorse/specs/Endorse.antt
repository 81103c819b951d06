-- Endorse on a state and its table: the number that refuses, and the table. The place is marked endorsed.
use Rattle.std.specs.Prelude.{List, ℕ}
use Rattle.terms.specs.declared.Proposal.{Proposal}
use Rattle.terms.specs.Proposals.{content_of}
use Rattle.store.specs.Writes.{set_endorsed}
use Rattle.rules.specs.Calls as rules
use Rattle.state.specs.declared.State.{State}
use Rattle.state.specs.Refusals.{refusal_of}
use Rattle.state.specs.Answers.{if_accepted}

module _ (s : State) (t : List ℕ) where
  unfoldable pub endorse_refusal : Proposal → ℕ
  endorse_refusal p = refusal_of s t (rules.endorse (content_of p))

  unfoldable pub endorse_table : Proposal → List ℕ
  endorse_table p = if_accepted (endorse_refusal p) (set_endorsed t p.author.0 p.round) t
