-- Advance on a state and its table: the number that refuses, and the state. Next round, proposal dropped.
use Rattle.std.specs.Prelude.{List, ℕ}
use Rattle.rules.specs.Calls as rules
use Rattle.state.specs.declared.State.{State}
use Rattle.state.specs.States.{advanced}
use Rattle.state.specs.Refusals.{refusal_of}
use Rattle.state.specs.Answers.{if_accepted}

module _ (s : State) (t : List ℕ) where
  unfoldable pub advance_refusal : ℕ
  advance_refusal = refusal_of s t rules.advance

  unfoldable pub advance_state : State
  advance_state = if_accepted advance_refusal (advanced s) s
