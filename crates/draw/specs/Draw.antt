-- Propose with what is drawn from guests' queues, on a state and its table: it is propose of the drawn body; where it is accepted, what was drawn leaves its queue.
use Rattle.std.specs.Prelude.{List, ℕ}
use Rattle.terms.specs.declared.Body.{Body}
use Rattle.terms.specs.Bodies.{body_of}
use Rattle.queues.specs.Queues.{Draw, drawn, transactions_in}
use Rattle.queues.specs.Words.{queues_of, drawn_table}
use Rattle.state.specs.declared.State.{State}
use Rattle.state.specs.Answers.{if_accepted}
use Rattle.propose.specs.Propose.{propose_refusal, propose_state}

module _ (s : State) (t : List ℕ) where
  -- as many as the allowance lets, and as wait
  abbrev pub draws : List Draw
  draws = drawn s.settings.allowance (queues_of t)

  -- what is proposed: a previous set, and what is drawn
  unfoldable pub drawn_body : ℕ → Body
  drawn_body previous = body_of previous (transactions_in draws)

  unfoldable pub draw_refusal : ℕ → ℕ
  draw_refusal previous = propose_refusal s t (drawn_body previous)

  unfoldable pub draw_state : ℕ → State
  draw_state previous = propose_state s t (drawn_body previous)

  unfoldable pub draw_table : ℕ → List ℕ
  draw_table previous = if_accepted (draw_refusal previous) (drawn_table draws t) t
